pub mod Printed
pub mod Clauses
