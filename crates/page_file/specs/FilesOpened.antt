-- A database's file as contracts see it.
use Rattle.page_chain.specs.declared.slots.slots.slots.Slots.{Slots}

-- the disk, and what is known of the slots
pub record OpenFile (D : Type 0) : Type 0 where
  pub disk : D
  pub slots : Slots
