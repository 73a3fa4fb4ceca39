pub mod Track
pub mod Bitmap
pub mod Digits
pub mod OtherDigits
