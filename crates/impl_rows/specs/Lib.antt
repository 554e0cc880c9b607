pub mod Found
pub mod Given
