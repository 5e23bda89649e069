-- How many chunks a statement reads.
use Rattle.std.specs.Prelude.{◌≡◌, ◌+◌, ◌-◌, ◌^◌, ℕ, List, [], length, min, None}
use Rattle.cell_values.specs.declared.datum.Row.{Row}
use Rattle.afl_outside.specs.Disk.{Moment}
use Rattle.afl_trees.specs.Term.{Term}
use Rattle.afl_types.specs.Checking.{check_of}
use Rattle.chunk_source.specs.declared.sources.asked.Asked.{Asked}
use Rattle.chunk_source.specs.Source.{SourceState}
use Rattle.event_core.specs.declared.entry.Entry.TheVariants.{Pin}
use Rattle.logical_plan.specs.declared.names.Names.{Names}
use Rattle.plan_changes.specs.Databases.{Database}
use Rattle.statement_replies.specs.Outcomes.{all_asked, rows_put_by}
use Rattle.session_sources.specs.Stored.{numbers_at, schema_of, AreRowsAfter}
use Rattle.store_state.specs.declared.state.event.Event.{Event}
use Rattle.store_state.specs.Calls.{database_with, history_at}
use Rattle.store_state.specs.Standings.{BeganAs}
use Rattle.session_answers.specs.Replies.{names_before, EnteredAt}
use Rattle.snapshot_manager.specs.Start.{Start}
use Rattle.snapshot_manager.specs.Told.{entries_in, told}

-- a count after so many more chunks were counted. It stands still at the last value of a `u64`
abbrev pub counted : List Asked → ℕ → ℕ
counted asked before = min (before + length asked) (2 ^ 64 - 1)

module _ {D : Type 0} (moment : D → Moment) (start : Start D) (events : List Event) (place : ℕ) (names : Names) where
  -- what a place sees by these names, as a source of chunks before its first call
  abbrev pub source_at : SourceState
  source_at = record {
    stored = schema_of names;
    chunks = numbers_at (told start events) place;
    tells = AreRowsAfter moment (told start events) (history_at (told start events) place);
    asked = [];
    damaged = None;
    faults = 0;
  }

  module _ (text : List ℕ) (tree : Term) where
    -- the chunks that a statement asks for there, where it puts these rows in: those that its plan needs, and those of an insert's target
    -- that are wanted for the rows
    abbrev pub asked_at : List Row → List Asked
    asked_at rows = all_asked rows source_at names (check_of tree text names)

    -- the rows that it puts in there, where the file began as this database
    abbrev pub rows_put_at : Database → List Row
    rows_put_at db = rows_put_by (database_with db (told start events) place) (check_of tree text names)

    -- so many chunks were counted as it asks for there. Whatever the file began as, those are the wanted ones for some rows; a plan's need no rows
    pub record CountsAt (before after : ℕ) : Type 0 where
      pub in_database : (db : Database) → BeganAs (moment start.opened.disk).state db → after ≡ counted (asked_at (rows_put_at db)) before
      pub some : (rows : List Row) × (after ≡ counted (asked_at rows) before)

-- AS MANY CHUNKS ARE READ AS THE STATEMENT WANTS of the arrays that its own pin sees: so many were counted before and after
pub record ReadsOnce {D : Type 0} (moment : D → Moment) (start : Start D) (session : ℕ) (old new : List Event)
    (text : List ℕ) (tree : Term) (before after : ℕ) : Type 0 where
  pub pin : ℕ
  pub began : EnteredAt (length (entries_in old)) (Pin session) pin new
  pub reads : CountsAt moment start new pin (names_before start new pin) text tree before after
