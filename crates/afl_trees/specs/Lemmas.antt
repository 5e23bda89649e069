pub mod TermCode
pub mod TreeFalls
