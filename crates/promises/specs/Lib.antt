pub mod Bare
pub mod Order
pub mod Written
pub mod Projects
pub mod Promises
pub mod Calls
pub mod Wrong
pub mod Sample
