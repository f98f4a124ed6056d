pub mod Filling
pub mod LentLaws
pub mod TableLaws
pub mod LengthLaws
pub mod PutLaws
pub mod WriteLaws
