pub mod Foretold
pub mod Foretells
pub mod Clauses
