pub mod TraitAt
pub mod Different
pub mod TraitLoop
