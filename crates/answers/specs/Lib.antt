-- What the checks that entries 6, 7 and 8 begin with find.
pub mod Parts
