pub mod Making
pub mod Over
pub mod Streams
