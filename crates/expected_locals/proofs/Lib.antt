pub mod Puts
pub mod PutParts
pub mod Enters
pub mod Returns
