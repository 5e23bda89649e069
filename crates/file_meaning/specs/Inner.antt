pub mod FileExample
pub mod NextExample
pub mod Removed
