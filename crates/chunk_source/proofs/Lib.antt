pub use Rattle.array_geom.proofs.CoreLaws
pub use Rattle.array_geom.proofs.LawProofs
pub use Rattle.array_geom.proofs.NearLemmas
pub use Rattle.array_geom.proofs.NumberLaws
pub use Rattle.array_geom.proofs.RowSets
pub use Rattle.array_geom.proofs.RowsLemmas
pub mod AloneLaws
pub mod AssembledLaws
pub mod ChunkRows
pub mod KnownLaws
pub mod MemoryLeafLaws
pub mod NumberedLaws
pub mod OrderLaws
pub mod ReadLaws
pub mod ReadLemmas
pub mod ReadingLeafLaws
pub mod SearchLaws
pub mod SufficientLaws
pub mod ValidLaws
mod WorkedNumbers
mod WorkedParts
