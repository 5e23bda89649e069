-- What a store keeps at each moment, on an honest disk that told the bytes of a database.
use Rattle.std.specs.Prelude.{◌≡◌, ℕ, ◌+◌, List, Option, Ok, IfSome}
use Rattle.std.specs.List.{AllByRecursion, AllZip}
use Rattle.afl_outside.specs.Disk.{Moment}
use Rattle.page_chain.specs.Places.{other}
use Rattle.page_chain.specs.declared.slots.layout.sides.Side.{Side}
use Rattle.page_chain.specs.declared.slots.slots.slots.Slots.{Slots}
use Rattle.page_chain.specs.declared.slots.slots.slots.RootSlot.{RootSlot}
use Rattle.page_chain.specs.declared.slots.slots.slots.RootSlot.TheVariants as roots
use Rattle.page_chain.specs.declared.slots.slots.slots.NextEntry.{NextEntry}
use Rattle.page_chain.specs.declared.slots.slots.slots.NextEntry.TheVariants as entries
use Rattle.plan_changes.specs.declared.change.Change.{Change}
use Rattle.plan_changes.specs.Databases.{Database, after}
use Rattle.plan_changes.specs.Stored.{IsDatabase}
use Rattle.version_catalog.specs.declared.rules.catalog.Catalog.{Catalog}
use Rattle.commit_pages.specs.Costs.{cost_from}
use Rattle.page_file.specs.Moments.{IsKnown}
use Rattle.file_meaning.specs.Opening.{found_in}
use Rattle.file_meaning.specs.Slots.{Slots as FoundSlots}
use Rattle.file_meaning.specs.Standing.{HoldsDatabase}
use Rattle.file_meaning.specs.declared.meaning.found.Found.{Found}
use Rattle.event_core.specs.declared.state.Core.{Core}
use Rattle.event_core.specs.Cells.{at}
use Rattle.event_core.specs.History.{History, catalogue_at, open_pins, pages_at}
use Rattle.event_core.specs.Legal.{IsLegal}
use Rattle.file_meaning.specs.Premises.{StandsBy, slots_of, slots_with}
use Rattle.store_state.specs.Rows.{directories_in, pages_in, pages_of_rows}
use Rattle.store_versions.specs.Versions.{Directories, versions_at}
use Rattle.store_state.specs.Standings.{Standing, base_of, current_slots, HaveStood, IsAttempt, StandsFor}
use Rattle.store_state.specs.Inner.Keeping.{Keeping, LieIn, pages_of_catalogue}

-- What is found from the current root on: the catalogue that is kept, the directories of the versions that can be named, and pages that are
-- just those of the history's catalogue, and of these versions
pub record IsFound (base : Core) (given : Directories) (h : History) (kept : Catalog) (log : ℕ) (found : Found) : Type 0 where
  pub catalog : found.catalog ≡ kept
  pub directories : found.directories ≡ directories_in kept (versions_at base given h)
  pub catalogue : catalogue_at base h ≡ pages_of_catalogue found.chain log found.logged
  pub stored : pages_of_rows kept found.directories ≡ pages_in kept (pages_at base h)

-- ---- what may stand open

-- P holds of the slots by the root that may stand open: with an empty log
abbrev pub ByRoot : RootSlot → Side → (FoundSlots → Type 0) → Type 0
ByRoot roots.Closed side P = Unit {0}
ByRoot roots.Older side P = Unit {0}
ByRoot (roots.Written root) side P = Unit {0}
ByRoot (roots.Opening root) side P = P (slots_of side root)

-- P holds of the slots with the record that may stand open
abbrev pub ByEntry : NextEntry → FoundSlots → (FoundSlots → Type 0) → Type 0
ByEntry entries.Closed slots P = Unit {0}
ByEntry (entries.Written at) slots P = Unit {0}
ByEntry (entries.Opening at) slots P = P (slots_with slots at)

abbrev pub StandsBySome : List ℕ → Database → FoundSlots → Type 0
StandsBySome image db slots = (found : Found) × StandsBy image slots db found

-- by what may stand open in a slot the image stands for this database
pub record StandsByOpening (image : List ℕ) (slots : Slots) (db : Database) : Type 0 where
  pub root : ByRoot slots.other (other slots.current.side) (StandsBySome image db)
  pub entry : ByEntry slots.next (current_slots slots) (StandsBySome image db)

-- ---- images

-- an image has this from the current root on, and in it the database's versions, and what each open pin sees. It stands for the database, or
-- for the one in doubt, which it has by the slot that may stand open
pub record IsImage (base : Core) (given : Directories) (db : Database) (h : History) (slots : Slots) (doubt : Option Change) (found : Found)
    (image : List ℕ) : Type 0 where
  pub opens : found_in image (current_slots slots) ≡ Ok found
  pub holds : HoldsDatabase image (at db h) found
  pub now : LieIn image (at db h) (versions_at base given h)
  pub pinned : AllByRecursion (λ pin. LieIn image (at db pin.before) (versions_at base given pin.before)) (open_pins h)
  pub doubted : IfSome doubt (λ change. StandsByOpening image slots (after (at db h) change))
  pub stands : StandsFor (at db h) doubt image

-- 'AT', ON AN HONEST DISK THAT BEGAN AS THIS DATABASE: over a history whose commits have these places
pub record HoldsCells {D : Type 0} (moment : D → Moment) (s : Standing D) (k : Keeping) (db : Database) (h : History) (given : Directories)
    (places : List ℕ) : Type 0 where
  pub legal : IsLegal (cost_from (base_of s).records) db s.ledger.base h
  pub database : IsDatabase (at db h)
  pub pinned : AllByRecursion (λ pin. IsDatabase (at db pin.before)) (open_pins h)
  pub doubt : IfSome s.doubt (IsAttempt db s.ledger.notes h)
  pub bytes : List ℕ
  pub known : IsKnown k.slots bytes (moment s.disk)
  pub found : Found
  pub is_found : IsFound s.ledger.base given h k.catalog k.slots.current.root.log found
  pub images : (image : List ℕ) → (moment s.disk).may_leave image → IsImage s.ledger.base given db h k.slots s.doubt found image
  -- what a crash since the opening might have left
  pub past : HaveStood (moment s.disk) db s.ledger.notes h 0 (moment s.opened.disk).state.moment
  -- since a commit was acknowledged no image is of a shorter history
  pub acked : AllZip (λ place since. HaveStood (moment s.disk) db s.ledger.notes h (place + 1) since) places s.acked
