-- A commit that is prepared for the worked store: under a pin its one array is removed, by a record in page 5.
use Rattle.std.specs.Prelude.{[], ◌∷◌, codes, None}
use Rattle.plan_changes.specs.declared.change.Change.{Change}
use Rattle.plan_changes.specs.declared.change.Change.TheVariants.{Remove}
use Rattle.event_core.specs.declared.entry.Entry.TheVariants.{Pin}
use Rattle.event_core.specs.Replay.{core_at}
use Rattle.store_state.specs.Laid.{Laid}
use Rattle.store_state.specs.Commits.{record_laid}
use Rattle.store_ledger.specs.Ledger.{attempt}
use Rattle.prepared_commits.specs.Standings.{Standing}
use Rattle.prepared_commits.specs.Worked.{worked_base, worked_catalog, worked_directory, worked_store}
use Rattle.prepared_commits.specs.declared.commits.prepared.Prepared.{Prepared}

abbrev pub removal : Change
removal = Remove (codes "A")

-- session 7 has a pin, under which the removal was tried
abbrev pub pinned_store : Standing (Unit {0})
pinned_store = record worked_store {
  ledger = record { base = worked_base; limit = 100; entries = Pin 7 ∷ []; notes = record { session = 7; kind = attempt removal; after = 1 } ∷ [] };
}

abbrev pub removal_laid : Laid
removal_laid = record_laid worked_catalog (1 ∷ 2 ∷ []) worked_directory removal None (5 ∷ [])

abbrev pub prepared_removal : Prepared
prepared_removal = record {
  session = 7;
  blobs = removal_laid.blobs;
  chain = removal_laid.chain;
  base = None;
  catalog = removal_laid.catalog;
  commit = record { core = core_at worked_base (Pin 7 ∷ []); change = removal; used = removal_laid.used };
  version = None;
}
