pub mod Orphans
pub mod Next
pub mod Serial
pub mod Step
pub mod Refused
