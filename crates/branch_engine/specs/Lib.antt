pub mod Sessions
pub mod Play
pub mod Readings
pub mod Engines
