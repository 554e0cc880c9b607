pub mod Refusals
pub mod Writes
pub mod Answers
