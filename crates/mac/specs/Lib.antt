-- AES-CMAC (RFC 4493): the definitions in its order. Its worked examples are computed from them in crate vectors.
pub mod Cmac
