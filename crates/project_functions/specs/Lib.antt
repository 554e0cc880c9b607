pub mod Steps
pub mod Asked
pub mod Clauses
