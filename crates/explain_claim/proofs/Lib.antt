pub mod Kept
pub mod Chosen
pub mod Calls
pub mod Examples
