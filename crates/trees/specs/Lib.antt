pub mod Trees
pub mod Promise
