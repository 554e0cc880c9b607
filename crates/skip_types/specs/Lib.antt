pub mod Pending
pub mod TypeNodes
pub mod Clauses
