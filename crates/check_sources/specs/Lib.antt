pub mod Build
pub mod Redimension
pub mod Stored
pub mod Targets
