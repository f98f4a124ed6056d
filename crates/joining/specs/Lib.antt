pub mod Numbers
pub mod Naming
pub mod RuleRows
pub mod Joins
pub mod Gathering
