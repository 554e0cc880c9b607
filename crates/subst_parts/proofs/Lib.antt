pub mod Nodes
pub mod Poison
pub mod PartsLaws
