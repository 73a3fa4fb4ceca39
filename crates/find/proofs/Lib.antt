pub mod Laws
pub mod Steps
pub mod InTree
pub mod Examples
