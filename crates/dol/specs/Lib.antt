pub mod Entries
pub mod Filling
pub mod Measure
pub mod Inner
