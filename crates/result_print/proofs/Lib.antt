pub mod Alike
mod Joined
mod Numbered
mod Worked
