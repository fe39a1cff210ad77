pub mod Prefixes
pub mod Totals
pub mod Rising
pub mod Claims
pub mod Keeps
pub mod EachStep
pub mod Crosses
