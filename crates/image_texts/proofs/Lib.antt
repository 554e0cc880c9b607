pub mod All
pub mod SameLaws
pub mod Find
pub mod Names
