pub mod StartData
pub mod Inner
