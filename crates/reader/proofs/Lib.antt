-- Places worked through.
pub mod Examples
