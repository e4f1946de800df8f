-- Laws of the digest, the set key and the tag.
pub mod Examples
pub mod Laws
