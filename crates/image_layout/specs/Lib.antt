pub mod Rows
pub mod Readers
pub mod Open
pub mod Opens
