-- What is known of a change that comes of a statement under a pin.
use Rattle.std.specs.Prelude.{◌≡◌, ◌+◌, ℕ, List, Option, Some, false}
use Rattle.afl_outside.specs.Disk.{Moment}
use Rattle.afl_trees.specs.Term.{Term}
use Rattle.array_geom.specs.declared.chunk.Changed.{Changed}
use Rattle.plan_changes.specs.declared.change.Change.{Change}
use Rattle.plan_changes.specs.Databases.{Database}
use Rattle.snapshot_manager.specs.Prepared.{MayBeMade}
use Rattle.statement_replies.specs.declared.answers.outcome.Outcome.TheVariants.{Changes}
use Rattle.statement_replies.specs.Outcomes.{MayBeCommitted}
use Rattle.statement_replies.specs.declared.replies.replies.Reply.{Reply as Told}
use Rattle.statement_replies.specs.declared.replies.style.Style.{Style}
use Rattle.store_ledger.specs.Ledger.{is_noted, is_tried}
use Rattle.store_state.specs.Calls.{database_with}
use Rattle.store_state.specs.Standings.{BeganAs}
use Rattle.snapshot_manager.specs.Seats.{ledger_seen, seen, start, store_seen}
use Rattle.session_answers.specs.Replies.{Says, SaysChange}
use Rattle.session_sources.specs.declared.reading.Reading.{Reading}
use Rattle.session_sources.specs.Pinned.{pinned_state, unread, HasRead}
use Rattle.session_answers.specs.BehindPins.{ComesOver}
use Rattle.session_answers.specs.Under.{WasPinned}

module _ {D : Type 0} (moment : D → Moment) (r : Reading D) (text : List ℕ) (tree : Term) (change : Change) (changed : Option Changed) (words : Told)
    (style : Style) where
  -- the change that comes of the statement over the pin's source
  abbrev pub HasOutcomesChange : Type 0
  HasOutcomesChange = ComesOver style r.lent.pinned.names (pinned_state moment (unread r.lent.shared r.lent.pinned r.lent.seat)) text tree
      (Changes change changed words)

  -- it is said right behind the pin, with its reply; and it may be committed, as no commit was tried under the pin
  pub record IsReadChange : Type 0 where
    pub allowed : MayBeCommitted r.lent.pinned.names change changed
    pub said : Says style moment (start moment r.lent.shared) (seen r.seat) text tree (r.lent.pinned.place + 1) (record { reply = words; change = Some change })
    pub typed : SaysChange style moment (start moment r.lent.shared) (seen r.seat) text tree (r.lent.pinned.place + 1) change
    pub may : (db : Database) → BeganAs (moment (start moment r.lent.shared).opened.disk).state db
        → MayBeMade (database_with db (store_seen moment r.lent.shared r.seat) r.lent.pinned.place) change changed
    pub tried : is_noted is_tried (ledger_seen moment r.lent.shared r.seat) r.lent.pinned.session ≡ false

-- A CHANGE THAT WAS READ UNDER A PIN MAY BE COMMITTED
abbrev pub ReadChangesMayBeCommitted : {D : Type 0} → (D → Moment) → Type 0
ReadChangesMayBeCommitted {D} moment = (style : Style) (r : Reading D) (text : List ℕ) (tree : Term) (change : Change) (changed : Option Changed) (words : Told)
    → HasRead moment r → WasPinned moment r → HasOutcomesChange moment r text tree change changed words style
    → IsReadChange moment r text tree change changed words style
