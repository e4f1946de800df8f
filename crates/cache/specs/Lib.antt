-- The cache: 2 to 64 slots.
pub mod Caches
