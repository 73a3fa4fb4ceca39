pub mod Layout
pub mod Word
