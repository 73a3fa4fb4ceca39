pub mod Laws
pub mod Order
pub mod Table
pub mod Alike
pub mod Recursion
