pub mod Generic
pub mod Bounds
pub mod Added
pub mod Arms
