pub mod Commas
pub mod Plain
pub mod Refused
