pub mod Causes
pub mod Writing
