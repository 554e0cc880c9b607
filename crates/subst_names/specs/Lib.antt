pub mod Aliases
pub mod Clauses
pub mod OneRow
