pub mod Choice
pub mod Number
pub mod Alike
pub mod Reason
pub mod Front
pub mod Recursion
pub mod Types
