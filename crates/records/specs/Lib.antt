-- What the entries find in slots.
pub mod Records
