pub mod Lent
pub mod Steps
pub mod Views
