-- The numbers that every call answers with.
pub mod Verdicts
