pub mod TypeExprs
pub mod Visits
pub mod Runs
pub mod DefinitionRuns
pub mod GoodSchema
pub mod Substitution
pub mod Qualified
pub mod Laws
