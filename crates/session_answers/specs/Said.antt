-- What comes of a statement, as it is said at a place.
use Rattle.std.specs.Prelude.{ℕ, List, Some}
use Rattle.afl_outside.specs.Disk.{Moment}
use Rattle.afl_trees.specs.Term.{Term}
use Rattle.plan_changes.specs.Databases.{Database}
use Rattle.afl_types.specs.Checking.{check_of}
use Rattle.statement_replies.specs.declared.answers.outcome.Outcome.{Outcome}
use Rattle.statement_replies.specs.declared.answers.outcome.Outcome.TheVariants.{Replied, Changes}
use Rattle.statement_replies.specs.Outcomes.{HasOutcomeKind, IsOutcomeOf}
use Rattle.statement_replies.specs.Statements.{reply_to, without_change}
use Rattle.statement_replies.specs.declared.replies.style.Style.{Style}
use Rattle.store_state.specs.declared.state.event.Event.{Event}
use Rattle.store_state.specs.Calls.{database_with}
use Rattle.store_state.specs.Standings.{BeganAs}
use Rattle.snapshot_manager.specs.Start.{Start}
use Rattle.snapshot_manager.specs.Told.{told}
use Rattle.session_answers.specs.Replies.{names_before, Says, SaysChange}

module _ {D : Type 0} (moment : D → Moment) (start : Start D) (events : List Event) (text : List ℕ) (tree : Term) (place : ℕ) (style : Style) where
  -- an outcome is what the statement says there: its reply, or the change with its reply
  abbrev pub IsSaid : Outcome → Type 0
  IsSaid (Replied reply) = Says style moment start events text tree place (without_change reply)
  IsSaid (Changes change changed reply) = Says style moment start events text tree place (record { reply = reply; change = Some change })
      × SaysChange style moment start events text tree place change

  -- it is of the kind that the names there tell, and what the statement is answered over the database there
  abbrev pub ComesOf : Outcome → Type 0
  ComesOf outcome = HasOutcomeKind style (names_before start events place) (check_of tree text (names_before start events place)) outcome
      × ((db : Database) → BeganAs (moment start.opened.disk).state db
      → IsOutcomeOf (database_with db (told start events) place) (reply_to style (database_with db (told start events) place) text tree) outcome)

abbrev pub OutcomesAreSaid : {D : Type 0} → (D → Moment) → Type 0
OutcomesAreSaid {D} moment = (style : Style) (start : Start D) (events : List Event) (text : List ℕ) (tree : Term) (place : ℕ) (outcome : Outcome)
    → ComesOf moment start events text tree place style outcome → IsSaid moment start events text tree place style outcome
