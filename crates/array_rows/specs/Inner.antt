pub mod CellsIn
pub mod Held
