pub mod Explain
pub mod Word
pub mod Promise
