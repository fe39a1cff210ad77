pub mod Texts
pub mod Reports
pub mod Sent
pub mod Summaries
pub mod Clients
