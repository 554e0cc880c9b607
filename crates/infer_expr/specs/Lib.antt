pub mod Infers
