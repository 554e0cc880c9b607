pub mod Ranges
pub mod Literals
