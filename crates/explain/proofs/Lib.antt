pub mod Laws
pub mod Complete
pub mod Along
pub mod Examples
