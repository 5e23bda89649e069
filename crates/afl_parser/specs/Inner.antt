pub mod Machine
pub mod Reply
