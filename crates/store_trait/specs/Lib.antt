pub mod Batch
pub mod Contents
pub mod Operation
pub mod Fits
pub mod Laws
pub mod Walk
