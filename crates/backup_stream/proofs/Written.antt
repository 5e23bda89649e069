-- A backup that was written over a pin's source, from the source's first call to its last.
use Rattle.std.proofs.Common.{◌≡◌, ◌∙◌, Result, IfErr, sym, ap, subst}
use Rattle.std.specs.List.{AllByRecursion}
use Rattle.afl_outside.specs.Disk.{Moment}
use Rattle.afl_outside.specs.Sink.{SinkState}
use Rattle.plan_changes.specs.Stored.{AreStored}
use Rattle.store_ledger.specs.declared.pinned.Pinned.{Pinned}
use Rattle.snapshot_manager.specs.declared.seat.Seat.{Seat}
use Rattle.snapshot_manager.specs.declared.shared.Shared.{Shared}
use Rattle.session_sources.specs.declared.reading.Lent.{Lent}
use Rattle.session_sources.specs.declared.reading.Reading.{Reading}
use Rattle.session_sources.specs.Pinned.{pinned_state, reading_of, unread, HasRead}
use Rattle.backup_format.specs.Spelling.{signed}
use Rattle.backup_writing.specs.Writing.{backup_text, Goes, HasCause, ReadsEach}
use Rattle.backup_writing.specs.declared.stop.WriteStop.{WriteStop}
use Rattle.backup_stream.specs.Inner.Steps.{WasWritten}
use Rattle.backup_stream.proofs.Leaves.{names_are_read}

module _ {D : Type 0} (moment : D → Moment) (shared : Shared D) (pinned : Pinned) (old : Seat D) (first : Reading D) (made : first ≡ unread shared pinned old) where
  pub all_read : AreStored pinned.names → AllByRecursion (ReadsEach (pinned_state moment first)) pinned.names.arrays
  all_read stored = subst (λ (r : Reading D). AllByRecursion (ReadsEach (pinned_state moment r)) pinned.names.arrays) (sym made) (names_are_read moment (unread shared pinned old) stored)

  module _ (new : Seat D) (last : Reading D) (seat : new ≡ last.seat) (lent : last.lent ≡ first.lent) where
    last_is : last ≡ reading_of shared pinned old new last.marks
    last_is =
        ap (λ (l : Lent D). record { lent = l; seat = last.seat; marks = last.marks }) (lent ∙ ap (λ (r : Reading D). r.lent) made)
        ∙ ap (λ (s : Seat D). reading_of shared pinned old s last.marks) (sym seat)

    pub was_written : (sink sink' : SinkState) (answer : Result (Unit {0}) WriteStop) → HasRead moment last
        → Goes (pinned_state moment first).tells (λ db. signed (backup_text pinned.names.arrays db)) answer sink sink'
        → IfErr answer (HasCause sink sink' (pinned_state moment first) (pinned_state moment last)) → WasWritten moment shared pinned old new sink sink' answer
    was_written sink sink' answer read goes cause = record {
      marks = last.marks;
      read = subst (HasRead moment) last_is read;
      goes = subst (λ (r : Reading D). Goes (pinned_state moment r).tells (λ db. signed (backup_text pinned.names.arrays db)) answer sink sink') made goes;
      cause = subst (λ (r : Reading D). IfErr answer (HasCause sink sink' (pinned_state moment (unread shared pinned old)) (pinned_state moment r))) last_is
          (subst (λ (r : Reading D). IfErr answer (HasCause sink sink' (pinned_state moment r) (pinned_state moment last))) made cause);
    }
