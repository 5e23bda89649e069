pub mod Dense
pub mod Reached
pub mod Runs
pub mod Skips
