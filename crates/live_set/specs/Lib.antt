pub mod Entries
pub mod Finding
pub mod Payloads
pub mod Spelling
pub mod Effects
pub mod Walks
pub mod Reading
pub mod UnitReply
