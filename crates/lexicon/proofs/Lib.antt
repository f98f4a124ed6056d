pub mod Tree
pub mod Numbers
pub mod Doubles
pub mod Growth
