pub mod Documents
pub mod Json
