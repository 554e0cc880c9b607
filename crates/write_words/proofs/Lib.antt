pub mod Prefix
pub mod Written
pub mod Copies
