pub mod Queues
pub mod Line
pub mod Laws
