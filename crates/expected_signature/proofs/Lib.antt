pub mod Places
pub mod Says
pub mod Sizes
pub mod Resolves
pub mod ParamLoop
pub mod Forms
pub mod Wholes
pub mod Bounds
