pub mod Lists
pub mod ListLoop
pub mod Views
pub mod AskedOf
