-- Laws of fields.
pub mod Laws
