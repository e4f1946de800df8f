-- Parts of entry 1's rule, for the functions that decide them.
pub mod Parts
