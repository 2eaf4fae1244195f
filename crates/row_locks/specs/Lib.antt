pub mod Mode
pub mod Locks
pub mod Held
pub mod Tally
pub mod Tied
pub mod Laws
