pub mod Targets
pub mod Values
pub mod ReturnsLaws
pub mod AssignsLaws
