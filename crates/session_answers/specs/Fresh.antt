-- What a change says behind entries that leave it as it was.
use Rattle.std.specs.Prelude.{◌≡◌, ℕ, List, ◌++◌, Some}
use Rattle.afl_outside.specs.Disk.{Moment}
use Rattle.afl_trees.specs.Term.{Term}
use Rattle.plan_changes.specs.declared.change.Change.{Change}
use Rattle.plan_changes.specs.Databases.{Database, names_of}
use Rattle.event_core.specs.History.{History}
use Rattle.array_store.specs.FreshLaws.{AreLeft, SameRoom}
use Rattle.statement_replies.specs.declared.replies.replies.Reply.{Reply as Told}
use Rattle.statement_replies.specs.declared.replies.style.Style.{Style}
use Rattle.store_state.specs.declared.state.event.Event.{Event}
use Rattle.store_state.specs.Calls.{database_with, history_at}
use Rattle.store_state.specs.Standings.{BeganAs}
use Rattle.array_store.specs.declared.store.start.Start.{Start}
use Rattle.array_store.specs.Told.{told}
use Rattle.session_answers.specs.Replies.{names_before, Says, SaysChange}

-- the database at a place, where the file began as one, has the names there
abbrev pub IsNamedAt : {D : Type 0} → (D → Moment) → Start D → List Event → ℕ → Type 0
IsNamedAt moment start events place = (db : Database) → BeganAs (moment start.opened.disk).state db
    → names_of (database_with db (told start events) place) ≡ names_before start events place

-- no commit between two places is about an array that a change reads or is about, and there is room for one more array at both or at neither
pub record AreLeftSince {D : Type 0} (start : Start D) (events : List Event) (place other : ℕ) (change : Change) : Type 0 where
  pub later : History
  pub grown : history_at (told start events) other ≡ later ++ history_at (told start events) place
  pub left : AreLeft later change
  pub room : SameRoom start.base later (history_at (told start events) place)

module _ {D : Type 0} (moment : D → Moment) (start : Start D) (events : List Event) (text : List ℕ) (tree : Term) (place other : ℕ) (change : Change)
    (style : Style) where
  -- at both places the statement is this change
  abbrev pub IsSaidAgain : Type 0
  IsSaidAgain = SaysChange style moment start events text tree place change → SaysChange style moment start events text tree other change

  -- and has the same reply, where it is accepted
  abbrev pub IsRepliedAgain : Type 0
  IsRepliedAgain = (reply : Told) → SaysChange style moment start events text tree place change
      → Says style moment start events text tree place (record { reply = reply; change = Some change })
      → Says style moment start events text tree other (record { reply = reply; change = Some change })

-- A FRESH CHANGE IS SAID AGAIN, with the same reply
abbrev pub FreshChangesAreSaid : {D : Type 0} → (D → Moment) → Type 0
FreshChangesAreSaid {D} moment = (style : Style) (start : Start D) (events : List Event) (text : List ℕ) (tree : Term) (place other : ℕ) (change : Change)
    → AreLeftSince start events place other change → IsNamedAt moment start events place → IsNamedAt moment start events other
    → IsSaidAgain moment start events text tree place other change style × IsRepliedAgain moment start events text tree place other change style
