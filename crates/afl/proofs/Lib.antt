pub mod Records
pub mod Walk
pub mod Laws
pub mod Examples
