pub mod Turns
pub mod PlaceLaws
pub mod ClassLaws
pub mod Sheets
pub mod Written
