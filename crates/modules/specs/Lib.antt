pub mod Joined
pub mod Shown
pub mod Promise
