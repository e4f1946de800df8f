pub mod Marked
pub mod Empty
pub mod Refused
