pub mod Times
pub mod Executions
pub mod Spelled
pub mod Laws
