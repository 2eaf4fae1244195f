pub mod Replica
pub mod Sound
pub mod Calls
pub mod Laws
pub mod Core
pub mod Wire
