pub mod Closings
pub mod Inner
pub mod Owners
pub mod Rule
pub mod Seats
