pub mod Attempts
pub mod Steps
pub mod Tree
pub mod Turns
