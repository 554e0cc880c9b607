pub mod StatementAt
