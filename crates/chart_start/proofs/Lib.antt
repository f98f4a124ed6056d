pub mod DiagonalLaws
pub mod SowLaws
pub mod BegunLaws
