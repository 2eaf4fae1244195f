pub mod Nexts
pub mod Moving
pub mod Legally
pub mod Acceptably
pub mod Receiving
pub mod Epochs
