pub mod Due
pub mod Ascii
pub mod Encoding
