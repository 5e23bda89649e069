pub mod Cells
pub mod Naming
pub mod Nulls
pub mod RowMajor
pub mod Schemas
pub mod Table
