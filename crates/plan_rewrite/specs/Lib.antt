pub mod Inner
pub mod Same
pub mod Settled
