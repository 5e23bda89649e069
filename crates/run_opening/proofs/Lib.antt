pub mod Closed
pub mod DamageLemmas
pub mod NameLemmas
pub mod Opened
pub mod OpeningLemmas
pub mod OutcomeLemmas
pub mod Reaped
pub mod RoomLemmas
