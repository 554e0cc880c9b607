pub mod Kept
pub mod Again
