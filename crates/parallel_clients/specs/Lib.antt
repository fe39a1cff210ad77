pub mod Played
pub mod Allowed
pub mod Outcomes
pub mod Clients
pub mod Sessions
pub mod Entrants
