pub mod Made
pub mod Logs
pub mod Graphs
pub mod Told
