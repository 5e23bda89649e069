pub mod Inner
pub mod Outcome
