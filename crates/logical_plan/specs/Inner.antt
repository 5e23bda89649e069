pub mod ByArity
pub mod QueryView
