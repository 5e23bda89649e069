pub use Rattle.array_rows.proofs.RowSets
pub use Rattle.array_rows.proofs.RowsLemmas
mod AreaLaws
pub mod CoreLaws
pub mod ExampleLaws
pub mod Fronts
pub mod LawProofs
pub mod LinkLaws
mod LinkWitness
pub mod MarginLaws
pub mod Meetings
pub mod NearLemmas
pub mod NumberLaws
pub mod Pairs
pub mod PlaceLaws
pub mod Positions
pub mod TestLaws
mod Worked
