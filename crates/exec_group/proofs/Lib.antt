pub mod BlockLaws
pub mod CoreColumnLaws
pub mod CoreSets
pub mod CornerLaws
pub mod GroupLaws
mod PiecesPartLaws
