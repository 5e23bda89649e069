pub use Rattle.array_rows.proofs.RowSets
pub use Rattle.array_rows.proofs.RowsLemmas
pub mod ArityLaws
pub mod ArrayLaws
pub mod BuiltRows
pub mod Items
pub mod LeafMeanings
pub mod OrderLaws
mod Samples
pub mod SchemaLaws
mod Worked
mod WorkedGroups
mod WorkedOrders
mod WorkedRows
mod WorkedShapes
mod WorkedTyping
