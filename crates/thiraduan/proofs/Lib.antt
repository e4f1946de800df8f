-- Laws of the exported calls.
pub mod Laws
pub mod Unread
