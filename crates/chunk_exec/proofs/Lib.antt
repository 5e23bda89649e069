mod BrokenLaws
mod ComputedLaws
pub mod DatabasePlans
mod ExecutedLaws
pub mod FaultLaws
pub mod GroupedRows
mod Held
pub mod KeptPlaces
mod OperatorLaws
pub mod OrderedArrays
pub mod PlanArrays
pub mod RedimensionedRows
pub mod ShapedArrays
mod SourceLaws
pub mod Steps
pub mod WholeRows
mod Worked
