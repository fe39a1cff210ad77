pub mod Lists
pub mod SeatViews
pub mod Rules
pub mod Views
