pub mod TypeExprAt
