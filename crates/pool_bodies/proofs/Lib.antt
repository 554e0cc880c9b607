pub mod StatementAt
pub mod StatementLaws
pub mod Blocks
