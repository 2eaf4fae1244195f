pub mod Feed
pub mod Source
