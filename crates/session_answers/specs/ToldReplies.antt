-- What replies without a change tell.
use Rattle.std.specs.Prelude.{◌≡◌, ℕ, ◌<◌, List, Bool, false}
use Rattle.afl_outside.specs.Disk.{Moment}
use Rattle.afl_trees.specs.Term.{Term}
use Rattle.chunk_source.specs.declared.reading.fault.ExecFault.{ExecFault}
use Rattle.chunk_source.specs.declared.reading.fault.ExecFault.TheVariants.{Source, Damaged, Memory}
use Rattle.afl_types.specs.Checking.{check_of}
use Rattle.statement_replies.specs.declared.answers.outcome.Outcome.TheVariants.{Replied}
use Rattle.statement_replies.specs.Outcomes.{MayFail}
use Rattle.statement_replies.specs.declared.replies.style.Style.{Style}
use Rattle.store_ledger.specs.declared.note.NoteKind.{NoteKind}
use Rattle.store_ledger.specs.Ledger.{is_noted}
use Rattle.store_state.specs.declared.state.event.Event.{Event}
use Rattle.snapshot_manager.specs.Start.{Start}
use Rattle.snapshot_manager.specs.Seats.{ledger_seen, seen, session_of, start}
use Rattle.session_answers.specs.Acts.{looking}
use Rattle.session_answers.specs.Refusals.{IsUnreadReply}
use Rattle.session_answers.specs.Replies.{names_before, words_of, BeganAsNone, HasFault, HasLine, HoldsBehindPin, HoldsWhereRefused, IsDamagedPage, IsToldFor}
use Rattle.session_answers.specs.declared.replies.reply.Reply.{Reply}
use Rattle.session_sources.specs.declared.reading.Reading.{Reading}
use Rattle.session_sources.specs.Courses.{AddsAtMostFault}
use Rattle.session_sources.specs.Pinned.{HasRead}
use Rattle.session_answers.specs.Said.{IsSaid}

module _ {D : Type 0} (moment : D → Moment) (start : Start D) (session pin : ℕ) (events own : List Event) (text : List ℕ) (tree : Term) (reply : Reply) where
  -- why a source gave no answer: that it was damaged, only where the file began as no database, and had that damage
  abbrev pub IsCause : ExecFault → Type 0
  IsCause Source = HasFault session own
  IsCause (Damaged page) = IsDamagedPage moment start events reply.place page × BeganAsNone moment start
  IsCause Memory = Unit {0}

  pub record IsCausedSincePin (fault : ExecFault) : Type 0 where
    pub holds : HoldsWhereRefused moment start session pin events own text tree reply
    pub cause : IsCause fault
    pub allowed : MayFail fault (check_of tree text (names_before start events reply.place))
    pub unread : IsUnreadReply fault reply

  module _ (style : Style) where
    -- it tells what it has to, for a statement that looked at arrays, and its text is its refusal's
    pub record IsLookedReply : Type 0 where
      pub line : HasLine reply reply.refusal
      pub told : IsToldFor moment start session pin events own text tree reply style reply.refusal looking

    -- the words that are said at its place, right behind the pin
    pub record IsSaidBehindPin : Type 0 where
      pub behind : HoldsBehindPin moment start session pin events own text tree reply
      pub said : IsSaid moment start events text tree reply.place style (Replied (words_of reply))

-- WHAT IS SAID BEHIND A PIN IS TOLD by the reply of these words, and why a source gave no answer by the reply that refuses for it
abbrev pub SaidRepliesAreTold : {D : Type 0} → (D → Moment) → Type 0
SaidRepliesAreTold {D} moment = (style : Style) (start : Start D) (session pin : ℕ) (events own : List Event) (text : List ℕ) (tree : Term) (reply : Reply)
    → IsSaidBehindPin moment start session pin events own text tree reply style → IsLookedReply moment start session pin events own text tree reply style

abbrev pub UnreadRepliesAreTold : {D : Type 0} → (D → Moment) → Type 0
UnreadRepliesAreTold {D} moment = (style : Style) (start : Start D) (session pin : ℕ) (events own : List Event) (text : List ℕ) (tree : Term) (reply : Reply)
    (fault : ExecFault)
    → IsCausedSincePin moment start session pin events own text tree reply fault → IsLookedReply moment start session pin events own text tree reply style

-- A READING THAT FAILED UNDER A PIN LEFT ITS NOTE, if no note was under the pin before
abbrev pub FailuresAreNoted : {D : Type 0} → (D → Moment) → Type 0
FailuresAreNoted {D} moment = (r : Reading D) → HasRead moment r → 0 < r.marks.faults
    → ((kinds : NoteKind → Bool) → is_noted kinds (ledger_seen moment r.lent.shared r.lent.seat) (session_of r.lent.seat) ≡ false)
    → (adds : AddsAtMostFault (start moment r.lent.shared) (session_of r.lent.seat) (seen r.lent.seat) (seen r.seat))
    → HasFault (session_of r.lent.seat) adds.own
