pub mod Buffer
pub mod Entries
pub mod Fitting
pub mod Filling
pub mod Writing
pub mod Bytes
pub mod Examples
