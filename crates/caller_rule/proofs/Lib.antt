pub mod WroteLaws
pub mod RuleLaws
