pub mod Inner
pub mod Outcome
pub mod ReadAs
pub mod Rules
pub mod SchemaBytes
pub mod Spelling
