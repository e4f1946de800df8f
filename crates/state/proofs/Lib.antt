-- Laws of the trusted state.
pub mod Examples
pub mod Laws
