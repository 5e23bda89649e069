-- What a store has besides its file, and what becomes of it where a commit ends.
use Rattle.std.specs.Prelude.{◌≡◌, ℕ, Bool, if◌then◌else◌, List, [], ◌∷◌, ◌++◌, length, Option, None, Result, Ok, Err}
use Rattle.afl_outside.specs.declared.source.Failed.{Failed}
use Rattle.chunk_map.specs.declared.directory.Directory.{Directory}
use Rattle.plan_changes.specs.declared.change.Change.{Change}
use Rattle.version_catalog.specs.declared.rules.catalog.Catalog.{Catalog}
use Rattle.page_file.specs.declared.commits.stopped.Stopped.{Stopped}
use Rattle.event_core.specs.History.{names_at}
use Rattle.store_ledger.specs.Ledger.{LedgerState, history, with_entries, with_fault}
use Rattle.store_versions.specs.declared.row.VersionRow.{VersionRow}
use Rattle.store_versions.specs.Rows.{needed_rows, places_at, rows_after}
use Rattle.prepared_commits.specs.declared.commits.prepared.Prepared.{Prepared}
use Rattle.store_sealing.specs.Steps.{doubt_after, entry_of, made_by}

pub record Held : Type 0 where
  pub ledger : LedgerState
  pub catalog : Catalog
  pub rows : List VersionRow
  pub doubt : Option Change
  pub made : List Directory

abbrev pub held_of : LedgerState → Catalog → List VersionRow → Option Change → List Directory → Held
held_of ledger catalog rows doubt made = record { ledger = ledger; catalog = catalog; rows = rows; doubt = doubt; made = made }

-- the ledger with the note of a fault, where the count rose
abbrev pub noted_if : Bool → ℕ → LedgerState → LedgerState
noted_if rose session ledger = if rose then with_fault session ledger else ledger

-- once it was written
abbrev pub held_sealed : Prepared → Bool → Held → Held
held_sealed p rose held = record {
  ledger = noted_if rose p.session (with_entries (entry_of p ∷ []) held.ledger);
  catalog = p.catalog;
  rows = needed_rows (places_at (history held.ledger))
      (rows_after (names_at held.ledger.base (history held.ledger)) (length held.ledger.entries) p.commit.change (made_by p) held.rows);
  doubt = None;
  made = held.made ++ made_by p ∷ [];
}

-- where it stopped at a stage
abbrev pub held_stopped : Stopped → Prepared → Bool → Held → Held
held_stopped stage p rose held = record held {
  ledger = noted_if rose p.session held.ledger;
  doubt = doubt_after stage held.doubt p.commit.change;
}

-- the answer, and what is held then
abbrev pub EndsSo : Result (Unit {0}) Stopped → Bool → Prepared → Held → Result ℕ Failed → Held → Type 0
EndsSo (Ok u) rose p old (Ok place) new = (place ≡ length old.ledger.entries) × (new ≡ held_sealed p rose old)
EndsSo (Ok u) rose p old (Err failed) new = ⊥
EndsSo (Err stage) rose p old (Ok place) new = ⊥
EndsSo (Err stage) rose p old (Err failed) new = new ≡ held_stopped stage p rose old
