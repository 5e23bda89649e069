pub mod Holds
pub mod Inner
pub mod Pairs
