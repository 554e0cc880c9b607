pub mod WholeLaws
pub mod WantedParts
