pub mod WithList
pub mod ReadRecord
