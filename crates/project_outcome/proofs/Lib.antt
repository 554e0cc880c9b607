pub mod Passing
pub mod Coming
pub mod Said
pub mod Refusals
