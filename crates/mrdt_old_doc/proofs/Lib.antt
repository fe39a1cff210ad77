pub mod SumsRenewed
pub mod MapsRenewed
pub mod SidesRenewed
