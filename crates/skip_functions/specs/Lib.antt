pub mod ExprNodes
pub mod Clauses
