-- Document 01's listing, worked from the definition, and the listing's laws.
pub mod Example
pub mod Laws
