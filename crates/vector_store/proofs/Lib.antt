pub mod Order
pub mod Finding
pub mod Passing
pub mod Gaps
pub mod Merging
