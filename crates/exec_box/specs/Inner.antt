pub mod Reached
pub mod Spread
