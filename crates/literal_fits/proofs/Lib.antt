pub mod Widths
pub mod ByRange
pub mod Given
pub mod Inferred
