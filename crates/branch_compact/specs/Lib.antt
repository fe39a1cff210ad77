pub mod Compact
pub mod Laws
pub mod Marks
pub mod Switch
