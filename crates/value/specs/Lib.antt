-- Values: none, a fingerprint, or a node with its two sides.
pub mod Values
