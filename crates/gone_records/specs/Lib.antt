pub mod Trail
pub mod Going
