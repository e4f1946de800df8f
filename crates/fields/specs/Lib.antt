-- An entry as fields of a fixed form, for callers outside.
pub mod Forms
