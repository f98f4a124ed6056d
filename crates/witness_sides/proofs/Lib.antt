pub mod LetterLaws
pub mod FewRecords
pub mod SearchLaws
pub mod WalkLaws
pub mod RowLaws
