-- AES-CMAC: the tag of a message, tags as words and their sums.
pub mod Cmac
pub mod Tags
