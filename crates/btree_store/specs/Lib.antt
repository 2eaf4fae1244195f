pub mod Contents
pub mod Put
