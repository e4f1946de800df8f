-- Two histories, worked.
pub mod Traps
