pub mod AggregateSort
pub mod Aggregates
pub mod Blocks
pub mod Cumulations
pub mod Groups
pub mod Names
pub mod Numbers
pub mod Windows
