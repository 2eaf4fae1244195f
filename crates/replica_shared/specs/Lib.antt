pub mod Queue
pub mod Outlet
pub mod Awaited
pub mod Names
pub mod Together
pub mod Feeding
pub mod Laws
