pub mod Readings
pub mod Spelling
pub mod Letters
pub mod Promise
