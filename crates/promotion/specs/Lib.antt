pub mod Promotion
pub mod Laws
