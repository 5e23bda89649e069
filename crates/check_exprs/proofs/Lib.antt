pub mod InnerFaults
pub mod KindLemmas
pub mod Operands
mod WorkedExpressions
