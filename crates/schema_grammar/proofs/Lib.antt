pub mod Joined
mod Meanings
mod Numbers
pub mod RuleLemmas
mod RulesHold
pub mod RulesValid
mod SchemaAgain
pub mod SchemaPrinted
mod ShapeAt
pub mod ShapeComplete
pub mod ShapeEnds
pub mod ShapeRuns
pub mod ShapeSound
