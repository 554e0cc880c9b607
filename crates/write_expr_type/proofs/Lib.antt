pub mod Accepted
pub mod Types
pub mod Arms
