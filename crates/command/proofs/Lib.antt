pub mod Commands
pub mod Parts
pub mod Examples
pub mod ReadRecord
