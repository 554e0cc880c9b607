pub mod Held
pub mod Copies
