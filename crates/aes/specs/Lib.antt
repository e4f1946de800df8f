-- AES-128: the definitions follow FIPS 197. Its worked examples are computed from them in crate vectors.
pub mod Aes
