pub mod ExprCode
pub mod ExprFalls
