pub mod Held
pub mod Shown
pub mod Job
pub mod Laws
