pub mod Sides
pub mod Kinds
pub mod Types
pub mod Forms
pub mod Document
