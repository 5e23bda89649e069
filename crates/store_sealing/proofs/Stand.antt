-- What an image stands for that opens as the slots say.
use Rattle.std.proofs.Common.{◌≡◌, inl, inr, ℕ, Bool, true, false, ◌||◌, List, Some, None}
use Rattle.page_chain.specs.Places.{other}
use Rattle.page_chain.specs.declared.slots.layout.sides.Side.{Side}
use Rattle.page_chain.specs.declared.slots.layout.roots.OpenRoot.{OpenRoot}
use Rattle.page_chain.specs.declared.slots.layout.logs.RecordAt.{RecordAt}
use Rattle.page_chain.specs.Standing.{OpensAsRoot, OpensWith}
use Rattle.page_chain.specs.declared.slots.slots.slots.RootSlot.{RootSlot}
use Rattle.page_chain.specs.declared.slots.slots.slots.RootSlot.TheVariants as roots
use Rattle.page_chain.specs.declared.slots.slots.slots.NextEntry.{NextEntry}
use Rattle.page_chain.specs.declared.slots.slots.slots.NextEntry.TheVariants as entries
use Rattle.plan_changes.specs.Databases.{Database, after}
use Rattle.file_meaning.specs.Slots.{Slots as FoundSlots}
use Rattle.file_meaning.specs.Standing.{Stands}
use Rattle.file_meaning.specs.Premises.{slots_with}
use Rattle.store_state.specs.LaidLaws.{OpenedFilesStand, OpenedRootsStand}
use Rattle.store_state.specs.Cells.{ByRoot, ByEntry, StandsBySome}
use Rattle.store_state.specs.Inner.Keeping.{is_opening_root, is_opening_entry}
use Rattle.store_state.specs.Standings.{current_slots}
use Rattle.store_sealing.specs.ImagesLaws.{ImagesStand}

-- where nothing may stand open the file doesn't open as that

no_root : (b : Bool) (side : Side) (file : List ℕ) (slot : RootSlot) → (is_opening_root slot || b) ≡ false → OpensAsRoot slot side file → ⊥
no_root b side file roots.Closed still opens = opens
no_root b side file roots.Older still opens = opens
no_root b side file (roots.Written root) still opens = opens
no_root b side file (roots.Opening root) still opens = cc

never : (b : Bool) → (b || true) ≡ false → ⊥
never true e = cc
never false e = cc

no_entry : (b : Bool) (current : OpenRoot) (records : List RecordAt) (file : List ℕ) (next : NextEntry) → (b || is_opening_entry next) ≡ false → OpensWith next current records file → ⊥
no_entry b current records file entries.Closed still opens = opens
no_entry b current records file (entries.Written entry) still opens = opens
no_entry b current records file (entries.Opening entry) still opens = never b still

-- with what may stand open it stands for the next database

by_root : OpenedRootsStand → (file : List ℕ) (db : Database) (side : Side) (slot : RootSlot) → ByRoot slot side (StandsBySome file db) → OpensAsRoot slot side file → Stands file db
by_root stand file db side roots.Closed told opens = absurd opens
by_root stand file db side roots.Older told opens = absurd opens
by_root stand file db side (roots.Written root) told opens = absurd opens
by_root stand file db side (roots.Opening root) told opens = (stand file side root db told.0 told.1 opens).1

by_entry : OpenedFilesStand → (file : List ℕ) (db : Database) (slots : FoundSlots) (next : NextEntry) → ByEntry next slots (StandsBySome file db) → OpensWith next slots.current slots.records file → Stands file db
by_entry stand file db slots entries.Closed told opens = absurd opens
by_entry stand file db slots (entries.Written entry) told opens = absurd opens
by_entry stand file db slots (entries.Opening entry) told opens = (stand file (slots_with slots entry) db told.0 told.1 opens).1

pub images_stand : OpenedFilesStand → OpenedRootsStand → ImagesStand
images_stand own torn image slots db None found same stands doubted (inl opens) = (own image (current_slots slots) db found stands opens).1
images_stand own torn image slots db None found same stands doubted (inr (inl opens)) = absurd (no_root (is_opening_entry slots.next) (other slots.current.side) image slots.other same opens)
images_stand own torn image slots db None found same stands doubted (inr (inr opens)) = absurd (no_entry (is_opening_root slots.other) slots.current slots.records image slots.next same opens)
images_stand own torn image slots db (Some change) found same stands doubted (inl opens) = inl (own image (current_slots slots) db found stands opens).1
images_stand own torn image slots db (Some change) found same stands doubted (inr (inl opens)) = inr (by_root torn image (after db change) (other slots.current.side) slots.other doubted.root opens)
images_stand own torn image slots db (Some change) found same stands doubted (inr (inr opens)) = inr (by_entry own image (after db change) (current_slots slots) slots.next doubted.entry opens)
