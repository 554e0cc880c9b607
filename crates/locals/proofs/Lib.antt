pub mod Finds
pub mod Adds
