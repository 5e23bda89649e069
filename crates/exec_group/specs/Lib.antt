pub mod Inner
pub mod Meant
