pub mod Behind
pub mod Seen
pub mod Joined
