pub mod Walked
pub mod Recounts
pub mod Keys
pub mod OnceEach
pub mod Nothing
pub mod Counts
