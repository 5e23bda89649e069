pub use Rattle.chunk_cells.specs.Whole
pub mod Cut
pub mod Found
pub mod Inner
pub mod Margins
pub mod Pieces
