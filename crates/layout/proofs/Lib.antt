pub mod Number
pub mod Laws
pub mod Lists
pub mod Examples
