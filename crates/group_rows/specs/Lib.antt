pub mod Counts
pub mod Grouped
pub mod Inner
pub mod Sets
pub mod Taken
pub mod Told
