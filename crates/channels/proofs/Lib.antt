pub mod Closed
pub mod Smallest
pub mod Plans
pub mod OnFile
pub mod Theorems
