pub mod Keyed
pub mod Keys
pub mod AtKeys
pub mod OnKeys
pub mod Touched
pub mod MapLaws
pub mod Reading
pub mod Slots
