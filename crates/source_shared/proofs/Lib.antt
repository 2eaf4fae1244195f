pub mod Calling
pub mod Turns
pub mod Moving
pub mod Places
pub mod Settled
pub mod Rotating
pub mod Finding
pub mod Following
