pub mod Durable
pub mod Calls
pub mod Crash
pub mod Making
pub mod Opening
pub mod Laws
