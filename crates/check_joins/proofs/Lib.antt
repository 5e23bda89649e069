pub mod Distinct
pub mod FreeNames
pub mod Made
pub mod SchemasFit
pub mod Suffixes
pub mod Unpaired
mod WorkedNames
