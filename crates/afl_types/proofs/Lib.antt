pub mod Agreeing
pub mod Arguments
pub mod CreatedPlaces
pub mod Made
pub mod NoQuery
pub mod ParsedLeaves
pub mod Parts
pub mod Putting
pub mod ReadVersions
pub mod RowsFit
pub mod Ruled
pub mod Saying
pub mod Small
pub mod Sources
pub mod StoredNames
pub mod Targets
pub mod TypedChanges
pub mod TypedGroups
pub mod TypedJoins
pub mod TypedMoves
pub mod TypedOrders
pub mod TypedQueries
pub mod TypedShapes
mod WorkedLaws
mod WorkedQueries
mod WorkedStatements
mod WorkedTypes
