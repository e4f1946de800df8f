-- SHA-256's compression (FIPS 180-4).
pub mod Functions
pub mod Compression
pub mod Steps
