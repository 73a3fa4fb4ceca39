pub mod Host
pub mod Personalise
pub mod Cabinet
