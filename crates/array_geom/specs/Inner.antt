pub mod Example
pub mod Ranges
