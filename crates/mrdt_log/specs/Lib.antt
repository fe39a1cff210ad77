pub mod Log
pub mod Appends
pub mod LogLaws
