pub mod Drawn
pub mod Crashes
pub mod Reasons
pub mod Known
pub mod Runs
