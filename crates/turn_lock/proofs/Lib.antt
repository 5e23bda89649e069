pub mod Basics
pub mod Ends
pub mod Gathering
pub mod Lists
pub mod OneClaim
pub mod Standing
pub mod Steps
