-- What the exported calls write.
pub mod Answers
