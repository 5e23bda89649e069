pub mod Example
pub mod Examples
pub mod Sharing
