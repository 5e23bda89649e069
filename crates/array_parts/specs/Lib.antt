pub mod Cores
pub mod CoresLaws
pub mod Inner
pub mod Made
pub mod Parts
pub mod PartsLaws
pub mod Placed
