pub mod Arguments
pub mod Counts
pub mod Holding
pub mod Meanings
pub mod Origins
pub mod PartsFit
pub mod Valid
mod WorkedRedimensions
