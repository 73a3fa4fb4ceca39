pub mod Rules
pub mod Brought
pub mod Trace
pub mod InRanges
pub mod Examples
pub mod ReportedCvm
