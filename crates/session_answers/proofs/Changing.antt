-- A change that was read under a pin.
use Rattle.std.proofs.Common.{◌≡◌, ◌∙◌, ◌+◌, ◌≤◌, ℕ, false, List, length, Option, Some, ap, sym, subst, arith}
use Rattle.afl_outside.specs.Disk.{Moment}
use Rattle.afl_trees.specs.Term.{Term}
use Rattle.array_geom.specs.declared.chunk.Changed.{Changed}
use Rattle.plan_changes.specs.declared.change.Change.{Change}
use Rattle.plan_changes.specs.Databases.{Database}
use Rattle.event_core.specs.Cells.{at}
use Rattle.event_core.specs.History.{History}
use Rattle.snapshot_manager.specs.Prepared.{MayBeMade}
use Rattle.statement_replies.specs.declared.answers.outcome.Outcome.TheVariants.{Changes}
use Rattle.statement_replies.specs.Outcomes.{IsMadeOf}
use Rattle.statement_replies.specs.declared.replies.replies.Reply.{Reply as Told}
use Rattle.statement_replies.specs.declared.replies.style.Style.{Style}
use Rattle.store_ledger.specs.Ledger.{is_noted, is_tried}
use Rattle.store_state.specs.declared.state.event.Event.{Event}
use Rattle.store_state.specs.Calls.{database_with}
use Rattle.store_state.specs.Standings.{BeganAs}
use Rattle.snapshot_manager.specs.Start.{Start}
use Rattle.snapshot_manager.specs.Told.{entries_in, told}
use Rattle.snapshot_manager.specs.Seats.{ledger_seen, seen, start}
use Rattle.session_answers.specs.Replies.{Says, SaysChange}
use Rattle.session_answers.proofs.Beginnings.{history_stays}
use Rattle.session_answers.proofs.Staying.{change_later, says_later}
use Rattle.session_sources.specs.declared.reading.Reading.{Reading}
use Rattle.session_sources.specs.Pinned.{unread, HasRead}
use Rattle.session_answers.specs.Changing.{HasOutcomesChange, ReadChangesMayBeCommitted}
use Rattle.session_answers.specs.Said.{IsSaid}
use Rattle.session_answers.specs.Under.{WasPinned}
use Rattle.session_answers.proofs.Behind.{pinned_outcomes_are_said, source_tells}
use Rattle.session_answers.proofs.Under.{pin_within}

made : (db : Database) (change : Change) (changed : Option Changed) → IsMadeOf db change changed → MayBeMade db change changed
made db change changed m = record { stores = m.stores; fault = m.whole; chunks = m.chunks }

module _ {D : Type 0} (moment : D → Moment) (style : Style) (r : Reading D) (text : List ℕ) (tree : Term) (change : Change) (changed : Option Changed) (words : Told)
    (read : HasRead moment r) (was : WasPinned moment r) (comes : HasOutcomesChange moment r text tree change changed words style) where
  abbrev began : Start D
  began = start moment r.lent.shared

  abbrev old : List Event
  old = seen r.lent.seat

  abbrev more : List Event
  more = read.adds.adds.more

  within : r.lent.pinned.place + 1 ≤ length (entries_in old)
  within = pin_within began old r.lent.pinned read.lent_pin.open_pin

  before : r.lent.pinned.place ≤ length (entries_in old)
  before = let le = within in omega (arith, le)

  said : IsSaid moment began old text tree (r.lent.pinned.place + 1) style (Changes change changed words)
  said = pinned_outcomes_are_said moment style (unread r.lent.shared r.lent.pinned r.lent.seat) text tree (Changes change changed words) read.lent_pin.open_pin was.database comes

  says_now : Says style moment began (seen r.seat) text tree (r.lent.pinned.place + 1) (record { reply = words; change = Some change })
  says_now = subst (λ (es : List Event). Says style moment began es text tree (r.lent.pinned.place + 1) (record { reply = words; change = Some change })) (sym read.adds.adds.grown)
      (says_later moment began old more text tree (r.lent.pinned.place + 1) within style (record { reply = words; change = Some change }) said.0)

  typed_now : SaysChange style moment began (seen r.seat) text tree (r.lent.pinned.place + 1) change
  typed_now = subst (λ (es : List Event). SaysChange style moment began es text tree (r.lent.pinned.place + 1) change) (sym read.adds.adds.grown)
      (change_later moment began old more text tree (r.lent.pinned.place + 1) within style change said.1)

  may_now : (db : Database) → BeganAs (moment began.opened.disk).state db → MayBeMade (database_with db (told began (seen r.seat)) r.lent.pinned.place) change changed
  may_now db is = subst (λ (es : List Event). MayBeMade (database_with db (told began es) r.lent.pinned.place) change changed) (sym read.adds.adds.grown)
      (subst (λ (h : History). MayBeMade (at db h) change changed) (sym (history_stays began old more r.lent.pinned.place before))
      (made (database_with db (told began old) r.lent.pinned.place) change changed
      (comes.told (database_with db (told began old) r.lent.pinned.place)
      (source_tells moment (unread r.lent.shared r.lent.pinned r.lent.seat) was.database db is)).1))

  tried_now : is_noted is_tried (ledger_seen moment r.lent.shared r.seat) r.lent.pinned.session ≡ false
  tried_now = ap (λ (session : ℕ). is_noted is_tried (ledger_seen moment r.lent.shared r.seat) session) read.lent_pin.own ∙ read.tried ∙ was.untried is_tried

pub read_changes_may_be_committed : {D : Type 0} (moment : D → Moment) → ReadChangesMayBeCommitted moment
read_changes_may_be_committed moment style r text tree change changed words read was comes = record {
  allowed = comes.kind.1;
  said = says_now moment style r text tree change changed words read was comes;
  typed = typed_now moment style r text tree change changed words read was comes;
  may = may_now moment style r text tree change changed words read was comes;
  tried = tried_now moment style r text tree change changed words read was comes;
}
