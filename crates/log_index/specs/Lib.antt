pub mod Footprint
pub mod Log
pub mod Trail
pub mod Laws
