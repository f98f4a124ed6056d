pub mod LevelRowLaws
pub mod PlaceLaws
pub mod KeyLaws
pub mod LevelLaws
pub mod PassLaws
pub mod Entries
pub mod AddLaws
pub mod BuiltLaws
