pub mod Rows
pub mod Adds
pub mod Clauses
