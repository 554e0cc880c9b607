pub mod RowsLaws
pub mod Tables
pub mod Writes
