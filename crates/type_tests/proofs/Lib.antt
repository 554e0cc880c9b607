pub mod Heads
pub mod ByCode
pub mod Returns
pub mod Equal
pub mod Edges
