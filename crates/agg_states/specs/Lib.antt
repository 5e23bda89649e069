pub mod Best
pub mod Inner
pub mod Laws
pub mod Merged
pub mod Stands
