pub mod Chunks
pub mod Keys
