pub mod CheckExample
pub mod Steps
