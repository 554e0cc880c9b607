pub mod Verdict
pub mod Gives
pub mod Loops
pub mod Stands
