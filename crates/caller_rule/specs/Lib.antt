pub mod RuleRows
pub mod Lent
