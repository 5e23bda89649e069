pub mod Runs
pub mod Visitors
pub mod Visits
