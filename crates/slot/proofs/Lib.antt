-- Laws of slots.
pub mod Examples
pub mod Laws
pub mod Back
