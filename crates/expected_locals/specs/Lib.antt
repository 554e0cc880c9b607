pub mod Entered
pub mod Clauses
