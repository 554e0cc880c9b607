pub mod Says
pub mod Nodes
