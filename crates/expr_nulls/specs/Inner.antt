pub mod ExprView
pub mod Seen
