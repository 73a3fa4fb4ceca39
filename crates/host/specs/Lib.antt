pub mod Hosted
pub mod Inner
pub mod Object
pub mod Explain
pub mod Wipe
pub mod Version
