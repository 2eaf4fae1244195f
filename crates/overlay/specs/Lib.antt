pub mod Keys
pub mod Pending
pub mod Follows
pub mod Joining
pub mod Children
pub mod Values
