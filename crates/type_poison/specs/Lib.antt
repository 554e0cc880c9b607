pub mod Headers
pub mod Passing
pub mod Equal
