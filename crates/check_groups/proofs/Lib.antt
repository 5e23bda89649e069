pub mod Among
pub mod GroupNames
pub mod GroupSchemas
pub mod Kept
pub mod Longer
pub mod NamedPlaces
pub mod PartsFit
pub mod Sizes
pub mod Sole
mod WorkedAggregates
