pub mod RowId
pub mod RowOrder
pub mod Rows
pub mod Covering
pub mod Schema
pub mod FaultText
pub mod Flags
pub mod Laws
