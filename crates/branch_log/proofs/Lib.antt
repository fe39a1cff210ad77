pub mod Made
pub mod Told
pub mod Below
pub mod Parts
