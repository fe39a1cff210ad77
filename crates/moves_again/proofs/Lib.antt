pub mod Made
pub mod Looks
pub mod Loops
