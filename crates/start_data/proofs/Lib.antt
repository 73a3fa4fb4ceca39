pub mod Setting
pub mod Ways
pub mod Fit
pub mod Laws
pub mod Twice
pub mod Examples
