pub mod Replying
pub mod Rooms
