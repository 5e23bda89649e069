pub mod Arrays
pub mod DirectoryLaws
pub mod Fields
pub mod Handing
pub mod Kept
pub mod Last
pub mod Laws
pub mod Loops
pub mod Maps
pub mod Pairs
pub mod Putting
pub mod Recorded
pub mod RuleLaws
pub mod Spelled
pub mod Telling
mod Worked
mod WorkedDirectories
