pub mod Placed
pub mod Clauses
