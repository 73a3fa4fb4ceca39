pub mod Objects
pub mod Placements
pub mod Entries
pub mod Records
pub mod Outcome
pub mod Word
pub mod Read
pub mod Inner
