pub mod Tag
pub mod Length
pub mod Object
pub mod Tree
pub mod Primitives
pub mod Encoding
pub mod Padding
