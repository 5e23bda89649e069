pub mod QueryCode
pub mod QueryFalls
