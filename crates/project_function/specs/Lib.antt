pub mod Made
pub mod Blocks
pub mod Clauses
