pub mod Ways
pub mod Kept
pub mod Ranges
pub mod EveryCall
pub mod Long
pub mod Refusals
