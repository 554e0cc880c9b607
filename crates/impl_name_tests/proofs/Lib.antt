pub mod Members
pub mod NameTests
