pub mod Columns
pub mod Keys
pub mod Merged
pub mod Merging
pub mod Places
pub mod Runs
