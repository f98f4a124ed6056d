pub mod Length
pub mod Clauses
