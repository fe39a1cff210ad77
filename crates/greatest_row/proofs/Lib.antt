pub mod Joins
pub mod Standing
pub mod Reading
