pub mod Reading
pub mod SchemaMarks
pub mod Unsigned
