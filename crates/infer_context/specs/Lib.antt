pub mod Stood
pub mod InContext
pub mod PlaceKinds
pub mod Clauses
