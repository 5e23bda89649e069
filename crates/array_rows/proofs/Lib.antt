pub mod ColumnLaws
pub mod FaultLaws
pub mod FormLaws
pub mod Loops
pub mod RowLaws
pub mod RowSets
pub mod RowsLemmas
pub mod Witness
