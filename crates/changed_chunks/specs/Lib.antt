pub mod Changing
pub mod Inner
pub mod Line
pub mod Listed
pub mod Targets
pub mod Traced
pub mod Wanted
