pub mod Follows
pub mod Refusals
pub mod Laws
pub mod Parts
pub mod Plans
pub mod Apart
pub mod Walk
