-- Laws of the listing's text.
pub mod Laws
