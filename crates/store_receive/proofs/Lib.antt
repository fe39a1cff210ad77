pub mod Turned
pub mod Loops
pub mod Ends
pub mod Places
pub mod Items
