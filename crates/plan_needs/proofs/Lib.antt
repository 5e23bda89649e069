pub mod AlikeBlocks
pub mod AlikeCross
pub mod AlikeGroups
pub mod AlikeNear
pub mod AlikeOrder
pub mod AlikeParts
pub mod AlikePlans
pub mod AlikeScans
pub mod AlikeShapes
pub mod AlikeSteps
pub mod AlikeWindows
pub mod BoxLaws
pub mod BoxSides
pub mod EmptyBoxes
pub mod FreeNames
pub mod Inside
pub mod InsidePlans
pub mod InsideShapes
pub mod LeafParts
pub mod NeedsByArity
pub mod RowLists
pub mod Saturated
pub mod TargetLaws
mod Worked
mod WorkedNeeds
mod WorkedShapes
mod WorkedTargets
