pub mod Details
pub mod Params
pub mod Returns
pub mod Clauses
