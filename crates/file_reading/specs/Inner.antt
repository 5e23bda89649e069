pub mod Found
pub mod Log
pub mod Rows
pub mod Taken
