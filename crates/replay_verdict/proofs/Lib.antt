pub mod Verdicts
pub mod Tellings
