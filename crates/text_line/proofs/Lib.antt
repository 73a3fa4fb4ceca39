pub mod Text
pub mod Digits
pub mod Meaning
pub mod Examples
