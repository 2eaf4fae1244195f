pub mod Numbers
pub mod Ids
pub mod Text
pub mod Reading
pub mod Laws
