pub mod Steps
pub mod OperatorsLaws
