pub mod Among
pub mod Input
pub mod Reach
pub mod Unchanged
pub mod Writes
