pub mod Answered
pub mod Receipts
pub mod Steps
