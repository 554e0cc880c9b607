pub mod Placed
pub mod Literals
pub mod Plain
pub mod Leaves
