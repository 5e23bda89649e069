pub mod Dumps
pub mod Inner
