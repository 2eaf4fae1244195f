mod Fresh
pub mod Followed
pub mod Seen
pub mod Told
mod WireRead
