pub mod Clauses
pub mod LevelRows
pub mod Levels
pub mod Rows
