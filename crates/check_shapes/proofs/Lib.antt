pub mod Among
pub mod Arguments
pub mod HighBounds
pub mod Holding
pub mod NumberedFit
pub mod OrdersFit
pub mod PairsFit
pub mod Places
pub mod Room
pub mod ShapesFit
mod WorkedShapes
