-- What is known behind the reply to what came of a statement, or behind the change that it is.
use Rattle.std.proofs.Common.{◌≡◌, ◌∙◌, ◌+◌, ℕ, Bool, false, List, length, None, Result, Ok, Err, ap, sym}
use Rattle.afl_outside.specs.Disk.{Moment}
use Rattle.afl_trees.specs.Term.{Term}
use Rattle.chunk_source.specs.declared.reading.fault.ExecFault.{ExecFault}
use Rattle.statement_replies.specs.declared.answers.outcome.Outcome.{Outcome}
use Rattle.statement_replies.specs.declared.answers.outcome.Outcome.TheVariants.{Replied, Changes}
use Rattle.statement_replies.specs.declared.replies.style.Style.{Style}
use Rattle.store_ledger.specs.declared.note.NoteKind.{NoteKind}
use Rattle.store_ledger.specs.declared.pinned.Pinned.{Pinned}
use Rattle.store_ledger.specs.Ledger.{is_noted}
use Rattle.store_state.specs.declared.state.parts.StoreParts.{StoreParts}
use Rattle.snapshot_manager.specs.Seats.{ledger_seen, read_count, seen, session_of, start, store_of}
use Rattle.snapshot_manager.specs.Turn.{Turn}
use Rattle.snapshot_manager.specs.declared.seat.Seat.{Seat}
use Rattle.snapshot_manager.specs.declared.shared.Shared.{Shared}
use Rattle.session_answers.specs.AnsweredUnder.{IsAnsweredUnder}
use Rattle.session_answers.specs.BehindPins.{HasDatabaseAt}
use Rattle.session_answers.specs.Inner.Attempts.{TellsRead}
use Rattle.session_answers.specs.Inner.Steps.{WasRead}
use Rattle.session_answers.specs.Inner.Turns.{Follows}
use Rattle.session_answers.specs.Reads.{CountsAt}
use Rattle.session_answers.specs.declared.replies.attempt.Attempt.{Attempt}
use Rattle.session_answers.specs.declared.replies.reply.Reply.{Reply}
use Rattle.session_answers.proofs.Counting.{replied_counts, unread_refuses}
use Rattle.session_answers.proofs.Readings.{replied_is_answered, unread_is_answered}

pub was_change : (place : ℕ) (outcome : Result Outcome ExecFault) (attempt : Attempt) → TellsRead place outcome (Err attempt) → outcome ≡ Ok (Changes attempt.change attempt.changed attempt.words)
was_change place (Ok (Replied words)) attempt told = absurd told
was_change place (Ok (Changes change changed words)) attempt told = λ i. Ok (Changes (sym told i).change (sym told i).changed (sym told i).words)
was_change place (Err fault) attempt told = absurd told

-- in a turn, which is as it was
pub follows_told : {D : Type 0} (moment : D → Moment) (session place : ℕ) (old new : Turn (StoreParts D)) (reply : Reply) (outcome : Result Outcome ExecFault) → TellsRead place outcome (Ok reply)
    → new ≡ old → place ≡ length (store_of new).ledger.entries → Follows moment session old new reply outcome
follows_told moment session place old new reply (Ok (Replied words)) told same at = (same, told.0, told.1 ∙ at)
follows_told moment session place old new reply (Ok (Changes change changed words)) told same at = absurd told
follows_told moment session place old new reply (Err fault) told same at = (same, told.0, told.1 ∙ at)

-- under a pin
module _ {D : Type 0} (style : Style) (moment : D → Moment) (shared : Shared D) (pinned : Pinned) (old new : Seat D) (text : List ℕ) (tree : Term)
    (has : HasDatabaseAt moment (start moment shared) (seen old) pinned.place pinned.names)
    (untried : (kinds : NoteKind → Bool) → is_noted kinds (ledger_seen moment shared old) (session_of old) ≡ false) (place : ℕ) (reply : Reply) where
  pub told_answers : (outcome : Result Outcome ExecFault) → WasRead style moment shared pinned old new text tree outcome → TellsRead place outcome (Ok reply) → place ≡ pinned.place + 1
      → IsAnsweredUnder style moment (start moment shared) pinned.session pinned.place (seen old) (seen new) text tree reply
  told_answers (Ok (Replied words)) w told at = replied_is_answered style moment shared pinned old new text tree has untried words reply w told.0 (told.1 ∙ at)
  told_answers (Ok (Changes change changed words)) w told at = absurd told
  told_answers (Err fault) w told at = unread_is_answered style moment shared pinned old new text tree has untried fault reply w told.0 (told.1 ∙ at)

  pub told_counts : (outcome : Result Outcome ExecFault) → WasRead style moment shared pinned old new text tree outcome → TellsRead place outcome (Ok reply) → reply.refusal ≡ None
      → CountsAt moment (start moment shared) (seen old) pinned.place pinned.names text tree (read_count old) (read_count new)
  told_counts (Ok (Replied words)) w told accepted = replied_counts style moment shared pinned old new text tree has words w (sym (ap (λ words. words.refusal) told.0) ∙ accepted)
  told_counts (Ok (Changes change changed words)) w told accepted = absurd told
  told_counts (Err fault) w told accepted = absurd (unread_refuses fault reply told.0 accepted)
