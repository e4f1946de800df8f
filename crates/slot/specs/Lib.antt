-- A slot of the cache: 192 bytes.
pub mod Slots
