pub use Rattle.store_versions.specs.States
pub use Rattle.store_versions.specs.declared.lean.lean.pin.LeanPin
pub mod Inner
pub mod Laws
pub mod Ledger
