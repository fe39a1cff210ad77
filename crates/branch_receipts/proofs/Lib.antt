pub mod Places
pub mod Received
pub mod Accepted
