-- The digest of a value, and the tag of a message.
pub mod Hashes
