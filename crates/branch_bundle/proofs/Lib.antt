pub mod Framed
pub mod Taken
pub mod Whole
pub mod Written
