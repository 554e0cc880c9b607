pub mod Says
pub mod Operators
pub mod Clauses
