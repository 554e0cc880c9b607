pub mod Runs
pub mod Holds
pub mod Lent
pub mod Notes
pub mod Rests
