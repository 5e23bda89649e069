pub mod Known
pub mod Next
