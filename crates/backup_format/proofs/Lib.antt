pub mod CoreChunks
pub mod CorePayloads
pub mod EmptyWorked
pub mod Ends
pub mod ItemLaws
pub mod LastArray
pub mod Parts
pub mod PieceLaws
pub mod RisingNumbers
mod StreamsWorked
pub mod VersionLaws
