pub mod Reading
pub mod Filling
pub mod Choosing
pub mod Beginning
pub mod Table
