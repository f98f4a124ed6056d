pub mod Names
pub mod Blocks
