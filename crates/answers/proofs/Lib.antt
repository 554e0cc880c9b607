pub mod Writes
pub mod Fields
pub mod Details
pub mod Calls
pub mod Passes
