pub mod InHistories
pub mod ScriptsEnding
pub mod ServingLemmas
pub mod TooLong
