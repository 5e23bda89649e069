pub mod Inner
pub mod Picked
