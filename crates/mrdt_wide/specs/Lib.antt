pub mod Wide
pub mod Laws
pub mod Forms
pub mod Elsewhere
pub mod FormsLaws
