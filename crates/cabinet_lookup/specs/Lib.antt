pub mod Value
pub mod Place
pub mod Address
pub mod Word
pub mod Named
