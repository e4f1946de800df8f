-- Term keys and fingerprints.
pub mod Terms
