pub mod Fields
pub mod Clauses
