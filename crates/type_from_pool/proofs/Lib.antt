pub mod Copies
pub mod Heads
pub mod Resting
