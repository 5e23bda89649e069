pub mod Continued
pub mod Inner
pub mod Lines
pub mod Meant
