pub mod Merging
pub mod Near
pub mod Numbers
pub mod Over
pub mod Reach
