-- Keys: strings of 0 to 256 bits.
pub mod Keys
pub mod Bits
