pub mod Generate
pub mod Init
pub mod Inner
pub mod OneHistory
pub mod Printed
pub mod Run
