pub mod Cells
pub mod Chunks
pub mod Offers
pub mod Quiet
pub mod Silent
pub mod Statements
