pub mod Whole
pub mod Totals
pub mod Next
