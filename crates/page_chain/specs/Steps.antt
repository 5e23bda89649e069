-- What the calls make of the slots.
use Rattle.std.specs.Prelude.{ℕ, ◌+◌, true, false, [], ◌∷◌, ◌++◌, length, nat_lt, if◌then◌else◌, None}
use Rattle.page_chain.specs.Places.{other}
use Rattle.page_chain.specs.declared.slots.layout.sides.Side.{Side}
use Rattle.page_chain.specs.declared.slots.layout.sides.Side.TheVariants as sides
use Rattle.page_chain.specs.declared.slots.layout.sides.Slot.{Slot}
use Rattle.page_chain.specs.declared.slots.layout.sides.Slot.TheVariants.{A, B, Log}
use Rattle.page_chain.specs.declared.slots.layout.sides.Format.{Format}
use Rattle.page_chain.specs.declared.slots.layout.sides.Format.TheVariants.{One, Two}
use Rattle.page_chain.specs.declared.slots.layout.roots.Root.{Root}
use Rattle.page_chain.specs.declared.slots.layout.logs.RecordAt.{RecordAt}
use Rattle.page_chain.specs.declared.slots.slots.slots.Slots.{Slots}
use Rattle.page_chain.specs.declared.slots.slots.slots.RootSlot.{RootSlot}
use Rattle.page_chain.specs.declared.slots.slots.slots.RootSlot.TheVariants as roots
use Rattle.page_chain.specs.declared.slots.slots.slots.NextEntry.{NextEntry}
use Rattle.page_chain.specs.declared.slots.slots.slots.NextEntry.TheVariants as entries
use Rattle.page_chain.specs.declared.slots.slots.slots.Target.{Target}
use Rattle.page_chain.specs.declared.slots.slots.slots.Target.TheVariants as targets

-- the next log entry where there is one, else the other root slot
abbrev pub first_target : Format → ℕ → Target
first_target One count = targets.Root
first_target Two count = if nat_lt count 64 then targets.Record else targets.Root

abbrev pub slot_of_side : Side → Slot
slot_of_side sides.A = A
slot_of_side sides.B = B

-- the target as a slot
abbrev pub target_slot : Target → Slots → Slot
target_slot targets.Root slots = slot_of_side (other slots.current.side)
target_slot targets.Record slots = Log (length slots.records)

-- A slot that was written is closed, and what is in its body doesn't count.
abbrev pub emptied_root : RootSlot → RootSlot
emptied_root roots.Closed = roots.Closed
emptied_root roots.Older = roots.Older
emptied_root (roots.Written root) = roots.Closed
emptied_root (roots.Opening root) = roots.Opening root

abbrev pub emptied_entry : NextEntry → NextEntry
emptied_entry entries.Closed = entries.Closed
emptied_entry (entries.Written entry) = entries.Closed
emptied_entry (entries.Opening entry) = entries.Opening entry

-- what the slots are once nothing that was written for the target counts
abbrev pub emptied : Slots → Slots
emptied slots = record slots { other = emptied_root slots.other; next = emptied_entry slots.next }

-- another slot becomes the target
abbrev pub aimed : Target → Slots → Slots
aimed target slots = record slots { target = target; other = emptied_root slots.other; next = emptied_entry slots.next; zeroed = None }

-- A slot whose gate was closed: what was filled stays so.
abbrev pub shut_root : RootSlot → RootSlot
shut_root roots.Closed = roots.Closed
shut_root roots.Older = roots.Closed
shut_root (roots.Written root) = roots.Written root
shut_root (roots.Opening root) = roots.Written root

abbrev pub shut_entry : NextEntry → NextEntry
shut_entry entries.Closed = entries.Closed
shut_entry (entries.Written entry) = entries.Written entry
shut_entry (entries.Opening entry) = entries.Written entry

abbrev pub shut : Target → Slots → Slots
shut targets.Root slots = record slots { other = shut_root slots.other; doubtful = false }
shut targets.Record slots = record slots { next = shut_entry slots.next; doubtful = false }

-- the target's slot may be open
abbrev pub doubted : Slots → Slots
doubted slots = record slots { doubtful = true }

-- this root has become the current one
abbrev pub with_root : Root → Slots → Slots
with_root root slots = record {
  current = record { side = other slots.current.side; format = Two; root = root };
  records = [];
  target = targets.Record;
  other = roots.Older;
  next = entries.Closed;
  doubtful = false;
  zeroed = None;
}

-- this record has come into the log
abbrev pub with_record : RecordAt → Slots → Slots
with_record at slots = record slots {
  records = slots.records ++ at ∷ [];
  target = first_target Two (length slots.records + 1);
  next = entries.Closed;
  zeroed = None;
}

-- The target's gate is being opened.
abbrev pub ajar_root : RootSlot → RootSlot
ajar_root roots.Closed = roots.Closed
ajar_root roots.Older = roots.Older
ajar_root (roots.Written root) = roots.Opening root
ajar_root (roots.Opening root) = roots.Opening root

abbrev pub ajar_entry : NextEntry → NextEntry
ajar_entry entries.Closed = entries.Closed
ajar_entry (entries.Written entry) = entries.Opening entry
ajar_entry (entries.Opening entry) = entries.Opening entry

abbrev pub ajar : Target → Slots → Slots
ajar targets.Root slots = record slots { other = ajar_root slots.other }
ajar targets.Record slots = record slots { next = ajar_entry slots.next }

-- The target is open: what was written has become current, or has come into the log.
abbrev pub with_other : RootSlot → Slots → Slots
with_other roots.Closed slots = slots
with_other roots.Older slots = slots
with_other (roots.Written root) slots = with_root root slots
with_other (roots.Opening root) slots = slots

abbrev pub with_next : NextEntry → Slots → Slots
with_next entries.Closed slots = slots
with_next (entries.Written entry) slots = with_record entry slots
with_next (entries.Opening entry) slots = slots

abbrev pub with_target : Target → Slots → Slots
with_target targets.Root slots = with_other slots.other slots
with_target targets.Record slots = with_next slots.next slots
