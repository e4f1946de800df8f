-- The field and the S-box of FIPS 197, and the S-box as it is printed.
pub mod Field
pub mod Columns
pub mod Vectors
