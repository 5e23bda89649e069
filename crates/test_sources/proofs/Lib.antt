pub mod Executed
pub mod Made
pub mod Operated
pub mod Stored
