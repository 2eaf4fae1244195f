pub mod Sets
pub mod Handed
pub mod Searched
pub mod Shown
pub mod Elsewhere
pub mod Running
pub mod Comparing
