pub mod Numbers
pub mod Lines
pub mod Tables
pub mod Script
