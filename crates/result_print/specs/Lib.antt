pub mod Inner
pub mod Lines
pub mod Listings
pub mod Records
pub mod Texts
