pub mod Commands
pub mod Numbers
pub mod Work
pub mod Terms
pub mod Bundles
pub mod Looks
pub mod Flags
pub mod Program
