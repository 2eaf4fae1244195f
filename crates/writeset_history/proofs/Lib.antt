pub mod Ends
pub mod Entered
pub mod Held
pub mod Moves
