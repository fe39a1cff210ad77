pub mod Digits
pub mod Joins
pub mod Mapped
pub mod Few
