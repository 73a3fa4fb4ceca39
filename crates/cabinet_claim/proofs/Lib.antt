pub mod Brought
pub mod Kernel
pub mod Words
pub mod Held
pub mod Calls
pub mod AsKernel
pub mod Examples
