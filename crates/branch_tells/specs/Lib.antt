pub mod Acts
pub mod Docs
pub mod Wides
pub mod Laws
