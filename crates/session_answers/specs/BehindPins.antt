-- What comes of a statement over the arrays that a pin sees.
use Rattle.std.specs.Prelude.{ℕ, ◌+◌, List}
use Rattle.afl_outside.specs.Disk.{Moment}
use Rattle.afl_trees.specs.Term.{Term}
use Rattle.logical_plan.specs.declared.names.Names.{Names}
use Rattle.plan_changes.specs.Databases.{Database}
use Rattle.afl_types.specs.Checking.{check_of}
use Rattle.chunk_source.specs.Source.{SourceState}
use Rattle.statement_replies.specs.declared.answers.outcome.Outcome.{Outcome}
use Rattle.statement_replies.specs.Outcomes.{HasOutcomeKind, IsOutcomeOf, IsToldBy}
use Rattle.statement_replies.specs.Statements.{reply_to}
use Rattle.statement_replies.specs.declared.replies.style.Style.{Style}
use Rattle.store_ledger.specs.Ledger.{IsOpenPin}
use Rattle.store_state.specs.declared.state.event.Event.{Event}
use Rattle.store_state.specs.Calls.{database_with}
use Rattle.store_state.specs.Standings.{BeganAs}
use Rattle.snapshot_manager.specs.Start.{Start}
use Rattle.snapshot_manager.specs.Databases.{IsDatabaseOf}
use Rattle.snapshot_manager.specs.Told.{told}
use Rattle.snapshot_manager.specs.Seats.{ledger_seen, seen, start}
use Rattle.session_sources.specs.declared.reading.Reading.{Reading}
use Rattle.session_sources.specs.Pinned.{pinned_state}
use Rattle.session_answers.specs.Said.{IsSaid}

-- an outcome is that of a statement over a source with these names
pub record ComesOver (style : Style) (names : Names) (source : SourceState) (text : List ℕ) (tree : Term) (outcome : Outcome) : Type 0 where
  pub kind : HasOutcomeKind style names (check_of tree text names) outcome
  pub told : (db : Database) → IsToldBy names source db → IsOutcomeOf db (reply_to style db text tree) outcome

-- where the file began as a database, that of a place has these names
abbrev pub HasDatabaseAt : {D : Type 0} → (D → Moment) → Start D → List Event → ℕ → Names → Type 0
HasDatabaseAt moment start events place names = (db : Database) → BeganAs (moment start.opened.disk).state db
    → IsDatabaseOf (database_with db (told start events) place) names

-- WHAT COMES OF A STATEMENT OVER A PIN'S SOURCE IS SAID, right behind the pin
abbrev pub PinnedOutcomesAreSaid : {D : Type 0} → (D → Moment) → Type 0
PinnedOutcomesAreSaid {D} moment = (style : Style) (r : Reading D) (text : List ℕ) (tree : Term) (outcome : Outcome)
    → IsOpenPin (ledger_seen moment r.lent.shared r.lent.seat) r.lent.pinned
    → HasDatabaseAt moment (start moment r.lent.shared) (seen r.lent.seat) r.lent.pinned.place r.lent.pinned.names
    → ComesOver style r.lent.pinned.names (pinned_state moment r) text tree outcome
    → IsSaid moment (start moment r.lent.shared) (seen r.lent.seat) text tree (r.lent.pinned.place + 1) style outcome
