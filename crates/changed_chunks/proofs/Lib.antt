pub mod Asked
pub mod ChunkLaws
mod ChunksWorked
pub mod CoresAlone
pub mod Counted
pub mod Counting
pub mod Kept
pub mod OverCores
pub mod Reach
pub mod Rows
pub mod Serves
pub mod Told
mod TracesWorked
pub mod Tracing
pub mod Unchanged
pub mod Written
