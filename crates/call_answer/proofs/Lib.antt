pub mod Splits
pub mod Answered
