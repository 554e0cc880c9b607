pub mod ExprNodes
pub mod StatementsLaws
pub mod FunctionsLaws
