pub mod TimeSets
pub mod Parts
pub mod Executions
pub mod SameEvents
pub mod Tables
pub mod Counted
