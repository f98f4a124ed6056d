pub mod Draft
pub mod Row
pub mod Promise
pub mod Reading
pub mod Edits
