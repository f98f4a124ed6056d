pub mod Meets
pub mod Named
pub mod ReadJoined
pub mod Trees
pub mod Answer
pub mod Sizes
pub mod Pins
