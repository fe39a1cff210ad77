pub mod Numbers
pub mod Thinned
pub mod Moves
pub mod Branches
pub mod Steps
pub mod Whole
pub mod Live
pub mod Stored
pub mod Objects
pub mod Compacted
pub mod Again
pub mod Switch
pub mod Marked
pub mod Counted
pub mod Read
pub mod Made
mod Rows
