pub mod Entry
pub mod Records
