pub mod Checking
pub mod Making
pub mod ReadLemmas
pub mod Untold
