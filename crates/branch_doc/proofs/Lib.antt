pub mod ThereAndBack
pub mod Lacking
