pub mod Apply
pub mod Boxes
pub mod Filter
pub mod Lengths
pub mod Project
pub mod Slice
