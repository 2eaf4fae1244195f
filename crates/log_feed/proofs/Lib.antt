pub mod Pieces
pub mod Reading
pub mod Heads
pub mod Cut
pub mod Follow
