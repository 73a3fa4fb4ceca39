pub mod Nibbles
pub mod Places
pub mod Sound
pub mod Writing
pub mod Others
pub mod Laws
pub mod Examples
