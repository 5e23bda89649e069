pub mod Faults
pub mod Forms
pub mod Help
pub mod Inner
pub mod Laws
pub mod Script
pub mod ScriptWorked
pub mod WordsWorked
