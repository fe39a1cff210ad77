pub mod Kids
pub mod Sums
