pub mod Gnos
pub mod Marks
pub mod Places
pub mod Laws
