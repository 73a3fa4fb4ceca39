pub mod Encoding
pub mod Playing
pub mod Inner
