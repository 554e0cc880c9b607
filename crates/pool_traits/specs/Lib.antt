pub mod TraitAt
pub mod Different
