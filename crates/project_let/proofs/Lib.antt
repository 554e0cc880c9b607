pub mod WantedLaws
pub mod Lets
