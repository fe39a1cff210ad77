pub mod Allowed
pub mod Crashes
pub mod Entries
pub mod Keeps
pub mod Names
pub mod Passes
pub mod Batches
pub mod Spelled
