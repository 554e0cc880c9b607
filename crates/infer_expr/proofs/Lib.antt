pub mod Arms
pub mod Operations
