pub mod Lists
pub mod Records
pub mod Rank
pub mod Stricter
