-- A store once a commit was sealed, and where it stopped.
use Rattle.std.specs.Prelude.{[], ◌∷◌, ◌++◌, length, true, Option, None, Some}
use Rattle.afl_outside.specs.Disk.{Moment}
use Rattle.chunk_map.specs.declared.directory.Directory.{Directory}
use Rattle.page_chain.specs.declared.slots.slots.slots.Slots.{Slots}
use Rattle.page_chain.specs.declared.slots.slots.slots.RootSlot.TheVariants as roots
use Rattle.page_chain.specs.declared.slots.slots.slots.NextEntry.TheVariants as entries
use Rattle.page_chain.specs.Steps.{doubted, with_record, with_root}
use Rattle.plan_changes.specs.declared.change.Change.{Change}
use Rattle.page_file.specs.declared.commits.placed.Placed.{Placed}
use Rattle.page_file.specs.declared.commits.stopped.Stopped.{Stopped}
use Rattle.page_file.specs.declared.commits.stopped.Stopped.TheVariants as stages
use Rattle.page_file.specs.Commits.{record_of, root_of}
use Rattle.page_file.specs.Moments.{cleared}
use Rattle.event_core.specs.declared.entry.Entry.{Entry}
use Rattle.event_core.specs.declared.entry.Entry.TheVariants.{Commit}
use Rattle.event_core.specs.History.{names_at}
use Rattle.store_ledger.specs.Ledger.{LedgerState, history, with_entries}
use Rattle.store_versions.specs.Rows.{directory_in, needed_rows, places_at, rows_after}
use Rattle.prepared_commits.specs.Standings.{Standing}
use Rattle.prepared_commits.specs.Keeping.{Keeping}
use Rattle.prepared_commits.specs.declared.commits.prepared.NewBase.{NewBase}
use Rattle.prepared_commits.specs.declared.commits.prepared.Prepared.{Prepared}

-- the directory of the version that the commit makes
abbrev pub made_by : Prepared → Directory
made_by p = directory_in p.version

abbrev pub entry_of : Prepared → Entry
entry_of p = Commit p.session p.commit.change p.commit.used

-- ---- sealed

-- the log has the record, or the new base is the current one
abbrev pub sealed_slots : Option NewBase → Placed → Slots → Slots
sealed_slots None chain slots = with_record (record_of chain) (cleared slots)
sealed_slots (Some base) chain slots = with_root (root_of base.sequence chain base.log) slots

-- the next catalogue is kept, and in the table the change, without the versions that nobody can name any more
abbrev pub sealed_keeping : {D : Type 0} → Standing D → Keeping → Prepared → Keeping
sealed_keeping s k p = record {
  slots = sealed_slots p.base p.chain k.slots;
  catalog = p.catalog;
  rows = needed_rows (places_at (history s.ledger))
      (rows_after (names_at s.ledger.base (history s.ledger)) (length s.ledger.entries) p.commit.change (made_by p) k.rows);
}

-- the ledger with the commit
abbrev pub sealed_ledger : {D : Type 0} → Standing D → Prepared → LedgerState
sealed_ledger s p = with_entries (entry_of p ∷ []) s.ledger

-- THE STORE ONCE A COMMIT IS SEALED, with this ledger, on a disk that tells the moment
abbrev pub sealed : {D : Type 0} → (D → Moment) → Standing D → Prepared → LedgerState → D → Standing D
sealed moment s p ledger disk = record s {
  disk = disk;
  ledger = ledger;
  doubt = None;
  acked = s.acked ++ (moment disk).state.moment ∷ [];
  made = s.made ++ made_by p ∷ [];
}

-- ---- stopped

-- At the first stage the slot isn't closed for sure; at the second it is, and at the third it may be open. Of a slot that was closed other
-- writes may have failed since.
abbrev pub stopped_slots : Stopped → Option NewBase → Placed → Slots → Slots → Slots
stopped_slots stages.Closing base chain slots later = doubted slots
stopped_slots stages.Filling None chain slots later =
    record (cleared slots) { next = entries.Closed; doubtful = later.doubtful; zeroed = later.zeroed }
stopped_slots stages.Filling (Some base) chain slots later =
    record (cleared slots) { other = roots.Closed; doubtful = later.doubtful; zeroed = later.zeroed }
stopped_slots stages.Opening None chain slots later =
    record (cleared slots) { next = entries.Opening (record_of chain); doubtful = true; zeroed = later.zeroed }
stopped_slots stages.Opening (Some base) chain slots later =
    record (cleared slots) { other = roots.Opening (root_of base.sequence chain base.log); doubtful = true; zeroed = later.zeroed }

-- the change in doubt: that of an earlier commit, none, or this one
abbrev pub doubt_after : Stopped → Option Change → Change → Option Change
doubt_after stages.Closing doubt change = doubt
doubt_after stages.Filling doubt change = None
doubt_after stages.Opening doubt change = Some change

abbrev pub stopped_keeping : Stopped → Keeping → Prepared → Slots → Keeping
stopped_keeping stage k p later = record k { slots = stopped_slots stage p.base p.chain k.slots later }

-- THE STORE WHERE A COMMIT STOPPED at a stage
abbrev pub stopped : {D : Type 0} → Stopped → Standing D → Prepared → LedgerState → D → Standing D
stopped stage s p ledger disk = record s { disk = disk; ledger = ledger; doubt = doubt_after stage s.doubt p.commit.change }
