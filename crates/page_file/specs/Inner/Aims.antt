-- Which slot is aimed at.
use Rattle.std.specs.Prelude.{◌≡◌, ◌<◌, ◌⊎◌, length}
use Rattle.page_chain.specs.declared.slots.layout.sides.Slot.{Slot}
use Rattle.page_chain.specs.declared.slots.layout.sides.Slot.TheVariants.{A, B, Log}
use Rattle.page_chain.specs.declared.slots.layout.sides.Format.TheVariants.{Two}
use Rattle.page_chain.specs.Steps.{target_slot}
use Rattle.page_chain.specs.declared.slots.slots.slots.Slots.{Slots}
use Rattle.page_chain.specs.declared.slots.slots.slots.Target.{Target}
use Rattle.page_chain.specs.declared.slots.slots.slots.Target.TheVariants as targets

abbrev pub target_of : Slot → Target
target_of A = targets.Root
target_of B = targets.Root
target_of (Log entry) = targets.Record

-- the next log entry, where there is one
pub record IsNextEntry (slot : Slot) (slots : Slots) : Type 0 where
  pub is : slot ≡ target_slot targets.Record slots
  pub format : slots.current.format ≡ Two
  pub room : length slots.records < 64

-- the other root slot, or the next log entry
abbrev pub IsAim : Slot → Slots → Type 0
IsAim slot slots = (slot ≡ target_slot targets.Root slots) ⊎ IsNextEntry slot slots
