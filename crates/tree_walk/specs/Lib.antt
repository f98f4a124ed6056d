pub mod Charted
pub mod Walking
