-- The state as bytes of a fixed layout, for callers outside.
pub mod Flats
