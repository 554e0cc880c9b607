pub mod TypeAt
pub mod ParamAt
