pub mod Rows
pub mod Loops
pub mod End
