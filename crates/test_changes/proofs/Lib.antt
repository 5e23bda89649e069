pub mod Allowed
pub mod Known
pub mod Made
