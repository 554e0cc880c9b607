pub mod Table
pub mod Encoding
pub mod Behind
pub mod Walk
pub mod AsciiLaws
