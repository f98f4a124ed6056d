pub mod Spans
pub mod Chart
pub mod Filling
pub mod Walk
