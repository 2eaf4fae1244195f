pub mod Agreement
pub mod Noted
pub mod Places
