pub mod Lists
pub mod Telling
pub mod Faults
pub mod RowFlags
pub mod Conflicts
pub mod Covers
pub mod RowMaps
pub mod Rising
