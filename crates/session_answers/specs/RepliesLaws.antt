-- What holds of the acts of sessions, and of replies.
use Rattle.std.specs.Prelude.{◌≡◌, ◌≤◌, ◌+◌, ℕ, List, ◌++◌, length, slice_get, Option, Some, IsTrue}
use Rattle.std.specs.List.{list_all}
use Rattle.arrayvec.specs.ArrayVec.{ArrayVec}
use Rattle.afl_outside.specs.Disk.{Moment}
use Rattle.afl_trees.specs.Term.{Term}
use Rattle.logical_plan.specs.declared.parts.Leaf.{Leaf}
use Rattle.plan_changes.specs.Databases.{Database}
use Rattle.event_core.specs.declared.entry.Entry.TheVariants.{Pin}
use Rattle.result_print.specs.declared.refusal.Refusal.{Refusal}
use Rattle.statement_replies.specs.declared.replies.style.Style.{Style}
use Rattle.store_ledger.specs.declared.pinned.Pinned.{Pinned}
use Rattle.store_ledger.specs.Ledger.{IsOpenPin}
use Rattle.store_state.specs.declared.state.event.Event.{Event}
use Rattle.store_state.specs.Calls.{database_with, payload_at}
use Rattle.array_store.specs.declared.store.start.Start.{Start}
use Rattle.array_store.specs.Told.{entries_in, is_sealed, ledger_of, told}
use Rattle.session_answers.specs.Acts.{acts_in, Course}
use Rattle.session_answers.specs.Replies.{names_before, IsToldFor}
use Rattle.session_answers.specs.declared.replies.reply.Reply.{Reply}

-- the acts among events, and among those that come behind them
abbrev pub ActsJoin : Type 0
ActsJoin = (first later : List Event) → acts_in (first ++ later) ≡ acts_in first ++ acts_in later

-- two places of a history have the same names, the same database, and the same payloads
pub record HaveTheSame {D : Type 0} (start : Start D) (events : List Event) (place other : ℕ) : Type 0 where
  pub names : names_before start events other ≡ names_before start events place
  pub database : (db : Database) → database_with db (told start events) other ≡ database_with db (told start events) place
  pub payloads : (leaf : Leaf) (at : ArrayVec ℕ) → payload_at (told start events) other leaf at ≡ payload_at (told start events) place leaf at

-- the entry of an open pin stands at its place, and what could be named at the pin is what could be named there
abbrev pub OpenPinsAreEntered : Type 0 → Type 0
OpenPinsAreEntered D = (start : Start D) (events : List Event) (pinned : Pinned) → IsOpenPin (ledger_of start events) pinned
    → (slice_get (entries_in events) pinned.place ≡ Some (Pin pinned.session)) × (names_before start events pinned.place ≡ pinned.names)

-- behind a pin stands what stood before it
abbrev pub PinsChangeNothing : Type 0 → Type 0
PinsChangeNothing D = (start : Start D) (session place : ℕ) (events : List Event) → slice_get (entries_in events) place ≡ Some (Pin session)
    → HaveTheSame start events place (place + 1)

-- WHAT A REPLY TELLS STAYS, whatever comes later: its session's own events, and others'
abbrev pub RepliesStay : {D : Type 0} → (D → Moment) → Type 0
RepliesStay {D} moment = (style : Style) (start : Start D) (session pin : ℕ) (old more own later : List Event) (text : List ℕ) (tree : Term) (reply : Reply)
    (refusal : Option Refusal) (course : Course) → IsTrue (list_all is_sealed old) → reply.place ≤ length (entries_in old)
    → IsToldFor moment start session pin old own text tree reply style refusal course
    → IsToldFor moment start session pin (old ++ more) (own ++ later) text tree reply style refusal course
