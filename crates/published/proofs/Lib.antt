pub mod Put
pub mod Histories
pub mod Numbers
pub mod Above
pub mod Counted
pub mod Adding
pub mod Steps
pub mod Words
