pub mod Again
pub mod Sides
pub mod Letters
pub mod Said
pub mod Only
pub mod Case
pub mod Pins
