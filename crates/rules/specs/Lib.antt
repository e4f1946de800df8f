-- The rules: what each entry comes to, one step, and a run over a log.
pub mod Outcomes
pub mod Adds
pub mod Evicts
pub mod Answers
pub mod Epochs
pub mod Steps
pub mod Runs
