pub mod Codes
pub mod NamesLaws
pub mod OneRow
pub mod GenericLaws
