pub mod Counts
pub mod Moves
pub mod Tied
pub mod Places
pub mod OneSession
pub mod Holders
