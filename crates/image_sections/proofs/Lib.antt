pub mod Trailers
pub mod Schemas
