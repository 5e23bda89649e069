pub mod Lexed
pub mod Reader
