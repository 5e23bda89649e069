pub mod Databases
pub mod Outs
pub mod Payloads
pub mod Sources
pub mod Texts
