pub mod Cases
pub mod Labels
pub mod Judged
