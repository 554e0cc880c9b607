pub mod Made
pub mod Agree
pub mod Clauses
