pub mod ScriptLines
pub mod EventLists
pub mod Runs
pub mod HexTexts
pub mod Readings
pub mod Sides
mod OptionNumbers
mod Choices
