pub mod Wiring
pub mod Preparing
