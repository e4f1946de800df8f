pub mod Doubling
pub mod Laws
