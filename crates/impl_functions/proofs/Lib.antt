pub mod Walk
pub mod PlaceTable
pub mod FindByName
pub mod NameTables
