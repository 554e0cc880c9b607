pub mod Here
pub mod Parts
pub mod Clauses
