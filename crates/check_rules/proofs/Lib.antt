pub mod Capped
pub mod Frames
pub mod LexedLemmas
pub mod Limits
pub mod LiteralComplete
pub mod LiteralSound
pub mod LiteralValues
pub mod Names
pub mod OperatorsHolding
pub mod ReadLemmas
pub mod RowLemmas
pub mod RulesHolding
pub mod SortLemmas
pub mod Steps
pub mod TextLemmas
pub mod Turns
pub mod ValidSchemas
mod WorkedLiterals
