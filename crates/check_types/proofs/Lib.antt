pub mod Details
pub mod Checks
