pub mod Replayed
pub mod ReplayText
pub mod Clauses
