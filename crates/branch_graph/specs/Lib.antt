pub mod Graph
pub mod Laws
pub mod Paints
pub mod Pairs
