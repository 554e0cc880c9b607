pub mod Asked
pub mod Clauses
