-- Laws of the cache.
pub mod Examples
pub mod Laws
pub mod Chunks
pub mod Slots
pub mod Found
pub mod Well
pub mod Opened
