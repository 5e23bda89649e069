pub mod Aims
pub mod Going
pub mod Laid
