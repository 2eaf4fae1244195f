pub mod Gapped
pub mod Laws
