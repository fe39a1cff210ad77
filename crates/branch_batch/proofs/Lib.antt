pub mod Agreeing
pub mod Crosses
pub mod Giving
pub mod Places
pub mod Rising
pub mod Taking
