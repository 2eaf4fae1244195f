pub mod Form
pub mod Relay
pub mod Touches
pub mod Kept
pub mod Laws
pub mod FaultText
