pub use Rattle.plan_changes.proofs.DatabaseLaws
pub use Rattle.plan_changes.proofs.FitLaws
pub use Rattle.plan_changes.proofs.NamesOf
pub use Rattle.plan_changes.proofs.Stays
pub use Rattle.plan_changes.proofs.StoredLaws
pub use Rattle.version_catalog.proofs.Kept
pub use Rattle.version_catalog.proofs.Spelled
pub mod Apart
mod Appended
mod Base
mod Both
mod BySlots
pub mod Counts
mod Cut
pub mod Elsewhere
pub mod Fewer
pub mod FileStored
mod Follow
mod FoundRise
pub mod Free
mod Held
mod Later
mod Lists
mod Logged
pub mod Made
pub mod More
pub mod One
pub mod OneVersion
pub mod Parts
pub mod Payloads
mod Record
mod Rising
mod Rows
mod Same
mod Seen
mod Shed
pub mod SlotLaws
pub mod SlotsBack
pub mod Steps
pub mod Taken
mod Torn
mod Turn
mod Version
mod WorkedBase
pub mod WorkedFiles
mod WorkedNext
pub mod WrongSlots
