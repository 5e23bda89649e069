pub mod Committing
pub mod Holding
pub mod Pairs
