pub mod Laws
pub mod Prefix
pub mod NextObject
pub mod Tree
pub mod Primitives
pub mod Encoding
pub mod Examples
