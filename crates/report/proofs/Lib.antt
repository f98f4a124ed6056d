pub mod Pins
pub mod Strings
pub mod Sizes
pub mod Told
pub mod Lines
pub mod Read
pub mod Written
