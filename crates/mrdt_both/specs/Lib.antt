pub mod Kept
pub mod Sides
pub mod SideParts
pub mod SidesLaws
