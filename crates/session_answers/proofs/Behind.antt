-- What comes of a statement over a pin's source.
use Rattle.std.proofs.Common.{◌≡◌, ◌∙◌, ℕ, ◌+◌, List, refl, sym, subst}
use Rattle.afl_outside.specs.Disk.{Moment}
use Rattle.afl_trees.specs.Term.{Term}
use Rattle.logical_plan.specs.declared.names.Names.{Names}
use Rattle.plan_changes.specs.Databases.{Database}
use Rattle.afl_types.specs.Checking.{check_of}
use Rattle.statement_replies.specs.declared.answers.outcome.Outcome.{Outcome}
use Rattle.statement_replies.specs.Outcomes.{HasOutcomeKind, IsOutcomeOf, IsToldBy}
use Rattle.statement_replies.specs.Statements.{reply_to}
use Rattle.statement_replies.specs.declared.replies.style.Style.{Style}
use Rattle.store_ledger.specs.declared.pinned.Pinned.{Pinned}
use Rattle.store_ledger.specs.Ledger.{IsOpenPin}
use Rattle.store_state.specs.declared.state.event.Event.{Event}
use Rattle.store_state.specs.Calls.{database_with}
use Rattle.store_state.specs.Standings.{BeganAs}
use Rattle.snapshot_manager.specs.Start.{Start}
use Rattle.snapshot_manager.specs.Told.{ledger_of, told}
use Rattle.snapshot_manager.specs.Seats.{ledger_seen, seen, start}
use Rattle.session_sources.specs.declared.reading.Reading.{Reading}
use Rattle.session_sources.specs.Pinned.{pinned_state}
use Rattle.session_answers.specs.RepliesLaws.{HaveTheSame}
use Rattle.session_answers.specs.Replies.{names_before}
use Rattle.session_answers.proofs.BehindPins.{pins_change_nothing}
use Rattle.session_answers.proofs.PinPlaces.{open_pins_are_entered}
use Rattle.session_answers.specs.BehindPins.{ComesOver, HasDatabaseAt, PinnedOutcomesAreSaid}
use Rattle.session_answers.specs.Said.{ComesOf}
use Rattle.session_answers.proofs.OutcomeLaws.{outcomes_are_said}

module _ {D : Type 0} (moment : D → Moment) (r : Reading D) (has : HasDatabaseAt moment (start moment r.lent.shared) (seen r.lent.seat) r.lent.pinned.place r.lent.pinned.names) where
  -- the source tells what stood when the pin came
  pub source_tells : (db : Database) → BeganAs (moment (start moment r.lent.shared).opened.disk).state db →
      IsToldBy r.lent.pinned.names (pinned_state moment r) (database_with db (told (start moment r.lent.shared) (seen r.lent.seat)) r.lent.pinned.place)
  source_tells db began = record {
    database = (has db began).database;
    named = (has db began).named;
    tells = record { db = db; began = began; is = refl };
  }

-- what holds right behind an open pin is what held as it came
pub open_pin_behind : {D : Type 0} (began : Start D) (events : List Event) (pinned : Pinned) → IsOpenPin (ledger_of began events) pinned →
    HaveTheSame began events pinned.place (pinned.place + 1)
open_pin_behind {D} began events pinned o = pins_change_nothing D began pinned.session pinned.place events (open_pins_are_entered D began events pinned o).0

pub names_behind : {D : Type 0} (began : Start D) (events : List Event) (pinned : Pinned) → IsOpenPin (ledger_of began events) pinned →
    names_before began events (pinned.place + 1) ≡ pinned.names
names_behind {D} began events pinned o = (open_pin_behind began events pinned o).names ∙ (open_pins_are_entered D began events pinned o).1

module _ {D : Type 0} (moment : D → Moment) (style : Style) (r : Reading D) (text : List ℕ) (tree : Term) (outcome : Outcome)
    (o : IsOpenPin (ledger_seen moment r.lent.shared r.lent.seat) r.lent.pinned)
    (has : HasDatabaseAt moment (start moment r.lent.shared) (seen r.lent.seat) r.lent.pinned.place r.lent.pinned.names)
    (comes : ComesOver style r.lent.pinned.names (pinned_state moment r) text tree outcome) where
  comes_behind : ComesOf moment (start moment r.lent.shared) (seen r.lent.seat) text tree (r.lent.pinned.place + 1) style outcome
  comes_behind = (
    subst (λ (names : Names). HasOutcomeKind style names (check_of tree text names) outcome)
        (sym (names_behind (start moment r.lent.shared) (seen r.lent.seat) r.lent.pinned o)) comes.kind,
    λ db began. subst (λ (there : Database). IsOutcomeOf there (reply_to style there text tree) outcome)
        (sym ((open_pin_behind (start moment r.lent.shared) (seen r.lent.seat) r.lent.pinned o).database db))
        (comes.told (database_with db (told (start moment r.lent.shared) (seen r.lent.seat)) r.lent.pinned.place) (source_tells moment r has db began)),
  )

pub pinned_outcomes_are_said : {D : Type 0} (moment : D → Moment) → PinnedOutcomesAreSaid moment
pinned_outcomes_are_said moment style r text tree outcome o has comes =
    outcomes_are_said moment style (start moment r.lent.shared) (seen r.lent.seat) text tree (r.lent.pinned.place + 1) outcome
    (comes_behind moment style r text tree outcome o has comes)
