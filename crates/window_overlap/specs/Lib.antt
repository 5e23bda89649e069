pub mod Cores
pub mod Inner
pub mod Meant
pub mod Reaches
