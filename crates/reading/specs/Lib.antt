pub mod Taking
pub mod Answer
pub mod Count
pub mod InnerItems
pub mod InnerPending
pub mod Inner
pub mod Both
