pub mod Read
pub mod Number
pub mod Back
pub mod Loop
pub mod Whole
