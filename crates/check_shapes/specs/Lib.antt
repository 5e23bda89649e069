pub mod Numbered
pub mod Pairs
pub mod Rank
pub mod Reverse
pub mod Sort
pub mod Tables
pub mod Unpack
pub mod Xgrid
