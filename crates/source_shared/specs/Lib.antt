pub mod Book
pub mod Seat
pub mod Engine
