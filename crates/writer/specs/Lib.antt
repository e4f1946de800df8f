-- The writer of entries.
pub mod Writings
