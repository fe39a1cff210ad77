pub mod Crosses
pub mod Bridge
pub mod FillLaws
pub mod ImageLaws
pub mod Lines
pub mod Noted
pub mod Settled
pub mod Replayed
