pub mod Clauses
pub mod Report
