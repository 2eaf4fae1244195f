pub mod Logged
pub mod Made
pub mod Goes
pub mod Lives
