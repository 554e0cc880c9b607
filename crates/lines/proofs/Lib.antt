pub mod Tells
pub mod Decimal
pub mod Lines
pub mod Lengths
