pub mod Gnos
pub mod Marks
