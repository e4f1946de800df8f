-- Parts of entry 2's rule, for the functions that decide them.
pub mod Parts
