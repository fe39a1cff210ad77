mod Accepted
mod Adopts
mod Behind
mod Calls
mod Crashes
mod Entries
mod Dropping
mod Held
mod Makes
mod Naming
mod Places
mod Spellings
mod Surely
mod Together
pub mod Crosses
