-- What a store keeps at each moment, on every disk.
use Rattle.std.specs.Prelude.{◌≡◌, ◌≤◌, [], ◌∷◌, List, length, IsTrue, is_some}
use Rattle.std.specs.List.{AllByRecursion, AllZip, list_all}
use Rattle.afl_outside.specs.Disk.{Moment}
use Rattle.page_chain.specs.Standing.{IsAlone}
use Rattle.page_chain.specs.Steps.{first_target}
use Rattle.page_chain.specs.declared.slots.slots.slots.Slots.{Slots}
use Rattle.version_catalog.specs.Catalogs.{IsCatalog, names_in}
use Rattle.version_reaper.specs.PageSets.{holds}
use Rattle.file_meaning.specs.Opening.{sequence_of}
use Rattle.event_core.specs.declared.state.Core.{Core}
use Rattle.event_core.specs.Apart.{AllShareOwn, AreApart}
use Rattle.event_core.specs.Bases.{Base, commits, sequence_at, records_at}
use Rattle.event_core.specs.History.{History, catalogue_at, names_at, open_pins, pages_at}
use Rattle.event_core.specs.Legal.{IsOrdered}
use Rattle.store_state.specs.Rows.{AreInOrder}
use Rattle.store_versions.specs.declared.row.VersionRow.{VersionRow}
use Rattle.store_versions.specs.Seen.{AreSeen}
use Rattle.store_versions.specs.Versions.{Directories, HaveDirectories, versions_at}
use Rattle.store_state.specs.Standings.{Standing, base_of, current_slots, records_in}
use Rattle.store_state.specs.Inner.Keeping.{Keeping, AreDirectoriesOf, HasItsPages, is_opening, tried_if_committed, AreCounted}

-- the history is an ordered one, whose commits share no pages but their own, over a base whose catalogue is apart
pub record IsInOrder (base : Core) (h : History) : Type 0 where
  pub ordered : IsOrdered base h
  pub own : AllShareOwn base h
  pub apart : AreApart base []

-- In the table the present and each open pin see just the versions that can be named there. Each has a directory of its array's schema, and
-- pages with its payloads'. Those that can be named now stand in the order of their numbers
pub record AreVersions (base : Core) (given : Directories) (h : History) (rows : List VersionRow) : Type 0 where
  pub first : HaveDirectories base.names given.first
  pub seen : AreSeen given rows base h
  pub now : AreDirectoriesOf (names_at base h) (versions_at base given h)
  pub pinned : AllByRecursion (λ pin. AreDirectoriesOf (names_at base pin.before) (versions_at base given pin.before)) (open_pins h)
  pub in_order : AreInOrder (names_at base h) (versions_at base given h)
  pub pages : AllZip HasItsPages (pages_at base h) (versions_at base given h)
  pub pinned_pages : AllByRecursion (λ pin. AllZip HasItsPages (pages_at base pin.before) (versions_at base given pin.before)) (open_pins h)

-- The root and its log have the sequence and the records of the history, and the log page is one of the catalogue's. The next commit has
-- the next entry of the log where there is one, else the other root, and nothing else may stand open
pub record AreSlots (base : Base) (h : History) (slots : Slots) : Type 0 where
  pub sequence : sequence_of (current_slots slots) ≡ sequence_at base h
  pub records : records_in slots.current.format (length slots.records) ≡ records_at base.records h
  pub fits : length slots.records ≤ 64
  pub log : IsTrue (holds (0 ∷ catalogue_at base.core h) slots.current.root.log)
  pub target : slots.target ≡ first_target slots.current.format (length slots.records)
  pub alone : IsAlone slots.target slots

-- 'AT', ON EVERY DISK: over a history, with the directories that its versions were made with
pub record IsKept {D : Type 0} (moment : D → Moment) (s : Standing D) (k : Keeping) (h : History) (given : Directories) : Type 0 where
  pub in_order : IsInOrder s.ledger.base h
  pub catalog : IsCatalog k.catalog
  pub names : names_in k.catalog ≡ names_at s.ledger.base h
  pub versions : AreVersions s.ledger.base given h k.rows
  pub slots : AreSlots (base_of s) h k.slots
  -- a slot may stand open just where a change is in doubt
  pub doubt : is_opening k.slots ≡ is_some s.doubt
  pub acked : length s.acked ≡ commits h
  pub made : length s.made ≡ commits h
  -- what was committed under an open pin was tried under it
  pub tried : IsTrue (list_all (tried_if_committed h s.ledger.notes) (open_pins h))
  pub noted : AreCounted (moment s.opened.disk).state.faults (moment s.disk).state.faults s.ledger.notes
