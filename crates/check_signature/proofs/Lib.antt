pub mod Ends
pub mod ParamsLaws
pub mod Whole
