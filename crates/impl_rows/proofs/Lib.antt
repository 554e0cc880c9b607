pub mod FindRows
pub mod Has
pub mod ViewRows
