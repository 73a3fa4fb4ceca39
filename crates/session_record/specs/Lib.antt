pub mod Numbers
pub mod Session
pub mod Ranges
pub mod Inner
