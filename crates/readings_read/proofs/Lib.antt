pub mod Marks
pub mod Words
pub mod Passes
pub mod Sayings
pub mod Both
pub mod Back
pub mod Grammars
