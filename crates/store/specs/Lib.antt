pub mod Place
pub mod Held
pub mod Inner
