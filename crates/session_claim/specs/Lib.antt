pub mod Calls
pub mod Order
pub mod Claim
pub mod ReportedCvm
