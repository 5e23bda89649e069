pub mod CoreLaws
pub mod HeldLemmas
pub mod LawProofs
pub mod Lists
pub mod PartLemmas
pub mod PlaceRows
pub mod StayLaws
pub mod Steps
