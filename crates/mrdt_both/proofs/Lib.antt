pub mod Products
pub mod Shares
