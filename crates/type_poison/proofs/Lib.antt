pub mod Walk
pub mod Poison
pub mod Passed
pub mod Equal
