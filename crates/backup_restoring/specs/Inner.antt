pub mod Layout
pub mod Making
pub mod Steps
pub mod Writing
