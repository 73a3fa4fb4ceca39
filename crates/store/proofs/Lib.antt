pub mod Places
pub mod Laws
pub mod Rows
pub mod Cases
