pub mod Made
pub mod Targets
pub mod Clauses
