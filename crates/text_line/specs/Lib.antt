pub mod Text
pub mod Digits
pub mod Line
pub mod Inner
