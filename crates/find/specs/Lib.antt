pub mod Find
pub mod InTree
pub mod Word
pub mod Inner
