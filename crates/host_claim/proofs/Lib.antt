pub mod Bytes
pub mod Read
pub mod Afl
pub mod Proper
pub mod Calls
pub mod Examples
