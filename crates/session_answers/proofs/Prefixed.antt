-- What a reply tells, with more events of its session in front of its own.
use Rattle.std.proofs.Common.{ℕ, List, ◌++◌, Option, None, Some}
use Rattle.std.proofs.lemmas.List.Elements.{Contains-append_right}
use Rattle.afl_outside.specs.Disk.{Moment}
use Rattle.afl_trees.specs.Term.{Term}
use Rattle.result_print.specs.declared.refusal.Refusal.{Refusal}
use Rattle.result_print.specs.declared.refusal.Refusal.TheVariants.{TooLong, Parse, HistoryFull, Typing, Cell, Disk, Damaged, SequenceEnd, Full, Memory}
use Rattle.statement_replies.specs.declared.replies.style.Style.{Style}
use Rattle.store_ledger.specs.declared.note.NoteKind.TheVariants.{Fault}
use Rattle.store_state.specs.declared.state.event.Event.{Event}
use Rattle.store_state.specs.declared.state.event.Event.TheVariants.{Noted}
use Rattle.session_answers.specs.Acts.{Course, nothing, looking, trying, making}
use Rattle.session_answers.specs.Replies.{HasFault, IsToldFor}
use Rattle.session_answers.specs.declared.replies.reply.Reply.{Reply}
use Rattle.snapshot_manager.specs.Start.{Start}

module _ {D : Type 0} (style : Style) (moment : D → Moment) (start : Start D) (session pin : ℕ) (events before own : List Event) (text : List ℕ) (tree : Term) (reply : Reply) where
  fault_before : HasFault session own → HasFault session (before ++ own)
  fault_before f = (f.0, Contains-append_right before own (Noted (record { session = session; kind = Fault; after = f.0 })) f.1)

  pub told_before : (refusal : Option Refusal) (course : Course) → IsToldFor moment start session pin events own text tree reply style refusal course →
      IsToldFor moment start session pin events (before ++ own) text tree reply style refusal course
  told_before None nothing t = t
  told_before None looking t = t
  told_before None (trying change) t = t
  told_before None (making change) t = t
  told_before (Some (TooLong bytes)) nothing t = t
  told_before (Some (TooLong bytes)) looking t = t
  told_before (Some (TooLong bytes)) (trying change) t = t
  told_before (Some (TooLong bytes)) (making change) t = t
  told_before (Some (Parse at kind)) nothing t = t
  told_before (Some (Parse at kind)) looking t = t
  told_before (Some (Parse at kind)) (trying change) t = t
  told_before (Some (Parse at kind)) (making change) t = t
  told_before (Some HistoryFull) nothing t = t
  told_before (Some HistoryFull) looking t = t
  told_before (Some HistoryFull) (trying change) t = t
  told_before (Some HistoryFull) (making change) t = t
  told_before (Some (Typing span kind)) nothing t = t
  told_before (Some (Typing span kind)) looking t = t
  told_before (Some (Typing span kind)) (trying change) t = t
  told_before (Some (Typing span kind)) (making change) t = t
  told_before (Some Disk) nothing t = t
  told_before (Some Disk) looking t = (t.0, fault_before t.1, t.2)
  told_before (Some Disk) (trying change) t = (t.0, fault_before t.1, t.2)
  told_before (Some Disk) (making change) t = t
  told_before (Some (Damaged page)) nothing t = t
  told_before (Some (Damaged page)) looking t = t
  told_before (Some (Damaged page)) (trying change) t = t
  told_before (Some (Damaged page)) (making change) t = t
  told_before (Some (Cell at kind)) nothing t = t
  told_before (Some (Cell at kind)) looking t = t
  told_before (Some (Cell at kind)) (trying change) t = t
  told_before (Some (Cell at kind)) (making change) t = t
  told_before (Some SequenceEnd) nothing t = t
  told_before (Some SequenceEnd) looking t = t
  told_before (Some SequenceEnd) (trying change) t = t
  told_before (Some SequenceEnd) (making change) t = t
  told_before (Some (Full needed free)) nothing t = t
  told_before (Some (Full needed free)) looking t = t
  told_before (Some (Full needed free)) (trying change) t = t
  told_before (Some (Full needed free)) (making change) t = t
  told_before (Some Memory) nothing t = t
  told_before (Some Memory) looking t = t
  told_before (Some Memory) (trying change) t = t
  told_before (Some Memory) (making change) t = t
