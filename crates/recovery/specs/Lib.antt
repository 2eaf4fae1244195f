pub mod Recovery
pub mod Replaying
