pub mod Room
pub mod Clauses
