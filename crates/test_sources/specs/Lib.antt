pub mod Changed
pub mod Example
pub mod Operators
