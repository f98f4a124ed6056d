pub mod Sides
pub mod Clauses
