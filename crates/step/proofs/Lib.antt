-- A step keeps what is well formed.
pub mod Kept
pub mod Unread
pub mod Told
