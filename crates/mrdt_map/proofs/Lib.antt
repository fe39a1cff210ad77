pub mod Changed
pub mod OnKeys
pub mod Writing
pub mod Reading
pub mod Same
