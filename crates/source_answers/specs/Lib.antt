pub mod Replies
pub mod Answers
pub mod Puts
