pub mod Parts
pub mod Sessions
pub mod Sizes
