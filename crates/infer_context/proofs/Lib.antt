pub mod Nodes
pub mod Hints
pub mod Operands
