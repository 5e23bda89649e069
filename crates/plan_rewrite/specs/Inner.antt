pub mod Pending
pub mod Settling
pub mod Trimmed
pub mod Wide
