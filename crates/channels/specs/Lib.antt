pub mod Commands
pub mod Promise
pub mod Theorems
