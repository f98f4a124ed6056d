pub mod Counts
pub mod View
