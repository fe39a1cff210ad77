pub mod Members
pub mod Reading
pub mod Set
pub mod Lawful
pub mod SetLaws
