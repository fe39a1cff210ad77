pub mod Weak
pub mod Sizes
