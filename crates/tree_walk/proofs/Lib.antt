pub mod Stack
pub mod Stable
pub mod Turns
pub mod Opening
pub mod Totals
pub mod Answers
