pub mod PrintedAgain
pub mod PrintedParts
pub mod Printing
