pub mod Account
pub mod Kernel
