pub mod Crosses
pub mod Joined
pub mod Keyed
