pub mod Classes
pub mod Shows
pub mod Levels
pub mod Walk
pub mod Blocks
pub mod Grow
