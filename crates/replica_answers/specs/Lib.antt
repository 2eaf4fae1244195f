pub mod Conversation
pub mod Followed
pub mod Laws
pub mod Replica
