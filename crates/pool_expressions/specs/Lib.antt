pub mod ExprAt
