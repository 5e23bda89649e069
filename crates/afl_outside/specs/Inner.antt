pub mod CallHistory
pub mod Overlay
pub mod Records
