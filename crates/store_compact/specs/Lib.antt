pub mod Written
pub mod Copied
pub mod Spelled
pub mod Compacting
