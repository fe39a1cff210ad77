pub mod Writing
pub mod Reading
pub mod Walked
pub mod Rebuilt
pub mod Merging
pub mod Standing
