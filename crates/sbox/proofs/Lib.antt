pub mod Laws
pub mod Xor
