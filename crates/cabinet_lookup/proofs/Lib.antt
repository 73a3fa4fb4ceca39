pub mod Laws
pub mod Small
pub mod Named
pub mod Examples
