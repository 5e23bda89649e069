-- What is told of a statement that was read under a pin.
use Rattle.std.specs.Prelude.{◌≡◌, ◌+◌, ◌<◌, ℕ, List, Bool, false, Some}
use Rattle.afl_outside.specs.Disk.{Moment}
use Rattle.afl_trees.specs.Term.{Term}
use Rattle.chunk_source.specs.declared.reading.fault.ExecFault.{ExecFault}
use Rattle.chunk_source.specs.declared.reading.fault.ExecFault.TheVariants.{Source, Damaged, Memory}
use Rattle.afl_types.specs.Checking.{check_of}
use Rattle.statement_replies.specs.declared.answers.outcome.Outcome.TheVariants.{Replied}
use Rattle.statement_replies.specs.Outcomes.{MayFail}
use Rattle.statement_replies.specs.declared.replies.style.Style.{Style}
use Rattle.store_ledger.specs.declared.note.NoteKind.{NoteKind}
use Rattle.store_ledger.specs.Ledger.{is_noted}
use Rattle.snapshot_manager.specs.Seats.{ledger_seen, seen, session_of, start}
use Rattle.session_answers.specs.Refusals.{IsUnreadReply}
use Rattle.session_answers.specs.Replies.{words_of}
use Rattle.session_answers.specs.declared.replies.reply.Reply.{Reply}
use Rattle.session_sources.specs.declared.reading.Reading.{Reading}
use Rattle.session_sources.specs.Courses.{AddsAtMostFault}
use Rattle.session_sources.specs.Pinned.{pinned_state, unread, HasRead}
use Rattle.session_answers.specs.BehindPins.{ComesOver, HasDatabaseAt}
use Rattle.session_answers.specs.ToldReplies.{IsLookedReply}

module _ {D : Type 0} (moment : D → Moment) (r : Reading D) where
  -- the pin came to a store with the database that its names are of, and no note was under it
  pub record WasPinned : Type 0 where
    pub database : HasDatabaseAt moment (start moment r.lent.shared) (seen r.lent.seat) r.lent.pinned.place r.lent.pinned.names
    pub untried : (kinds : NoteKind → Bool) → is_noted kinds (ledger_seen moment r.lent.shared r.lent.seat) (session_of r.lent.seat) ≡ false

  -- the source gave no answer, and says so
  abbrev pub SaysWhy : ExecFault → Type 0
  SaysWhy Source = 0 < r.marks.faults
  SaysWhy (Damaged page) = r.marks.damaged ≡ Some page
  SaysWhy Memory = Unit {0}

module _ {D : Type 0} (moment : D → Moment) (r : Reading D) (text : List ℕ) (tree : Term) (reply : Reply) (style : Style) where
  -- a reply right behind the pin tells what it has to, whatever the reading added
  abbrev pub IsToldUnder : Type 0
  IsToldUnder = reply.place ≡ r.lent.pinned.place + 1
      → (adds : AddsAtMostFault (start moment r.lent.shared) (session_of r.lent.seat) (seen r.lent.seat) (seen r.seat))
      → IsLookedReply moment (start moment r.lent.shared) r.lent.pinned.session r.lent.pinned.place (seen r.seat) adds.own text tree reply style

  -- the words that come of the statement over the pin's source
  abbrev pub HasOutcomesWords : Type 0
  HasOutcomesWords = ComesOver style r.lent.pinned.names (pinned_state moment (unread r.lent.shared r.lent.pinned r.lent.seat)) text tree
      (Replied (words_of reply))

-- WHAT WAS READ UNDER A PIN IS TOLD, and why it could not be
abbrev pub ReadRepliesAreTold : {D : Type 0} → (D → Moment) → Type 0
ReadRepliesAreTold {D} moment = (style : Style) (r : Reading D) (text : List ℕ) (tree : Term) (reply : Reply) → HasRead moment r → WasPinned moment r
    → HasOutcomesWords moment r text tree reply style → IsToldUnder moment r text tree reply style

abbrev pub FailedRepliesAreTold : {D : Type 0} → (D → Moment) → Type 0
FailedRepliesAreTold {D} moment = (style : Style) (r : Reading D) (text : List ℕ) (tree : Term) (reply : Reply) (fault : ExecFault) → HasRead moment r
    → WasPinned moment r → SaysWhy moment r fault → MayFail fault (check_of tree text r.lent.pinned.names) → IsUnreadReply fault reply
    → IsToldUnder moment r text tree reply style
