pub mod Record
pub mod Verdict
pub mod ConformingRecords
pub mod Inner
pub mod Writer
