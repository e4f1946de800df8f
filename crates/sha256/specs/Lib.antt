-- SHA-256 (FIPS 180-4).
pub mod Sha256
