pub mod Crosses
pub mod Maximal
pub mod Members
pub mod Painted
pub mod Ranked
pub mod Reach
pub mod Reaching
pub mod Turns
