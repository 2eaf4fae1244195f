pub mod History
pub mod Probing
pub mod Slots
pub mod Laws
