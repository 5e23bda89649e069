pub mod BySchema
pub mod Limits
pub mod Putting
pub mod PuttingStatements
