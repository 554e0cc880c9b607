pub mod Tests
pub mod Edges
