pub mod Elements
pub mod OldDocument
pub mod OldLaws
