-- Demand 3, and what its statement counts with.
pub mod Same
pub mod Counting
pub mod Statement
pub mod Logs
