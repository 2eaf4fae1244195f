pub mod Kind
pub mod History
pub mod Parent
pub mod Law
