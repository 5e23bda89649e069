-- A disk that failed under a pin left its note.
use Rattle.std.proofs.Common.{◌≡◌, ◌∙◌, inl, inr, ℕ, true, false, List, [], ◌∷◌, Contains, refl, sym, subst, arith}
use Rattle.std.proofs.lemmas.Bool.{true≢false}
use Rattle.afl_outside.specs.Disk.{Moment}
use Rattle.store_ledger.specs.declared.note.NoteKind.TheVariants.{Fault}
use Rattle.store_ledger.specs.Ledger.{is_fault, is_noted}
use Rattle.store_state.specs.declared.state.event.Event.{Event}
use Rattle.store_state.specs.declared.state.event.Event.TheVariants.{Noted}
use Rattle.snapshot_manager.specs.Start.{Start}
use Rattle.snapshot_manager.specs.Told.{ledger_of}
use Rattle.session_answers.specs.Replies.{HasFault}
use Rattle.session_sources.specs.Courses.{AddsOwn, IsFaultAtMost}
use Rattle.session_sources.proofs.CourseLaws.{courses_keep_notes}
use Rattle.snapshot_manager.specs.Seats.{seen, session_of, start}
use Rattle.session_answers.specs.ToldReplies.{FailuresAreNoted}

fault_in : (session after : ℕ) → Contains (Noted (record { session = session; kind = Fault; after = after }) ∷ []) (Noted (record { session = session; kind = Fault; after = after }))
fault_in session after = (0, omega arith, refl)

one_fault : {D : Type 0} (start : Start D) (session : ℕ) (old new own : List Event) → AddsOwn session own old new → IsFaultAtMost (ledger_of start new) session own →
    is_noted is_fault (ledger_of start old) session ≡ false → is_noted is_fault (ledger_of start new) session ≡ true → HasFault session own
one_fault {D} start session old new own adds (inl none) untried noted =
    absurd (true≢false (sym noted ∙ courses_keep_notes D start is_fault session [] old new (subst (λ (mine : List Event). AddsOwn session mine old new) none adds) refl ∙ untried))
one_fault start session old new own adds (inr one) untried noted =
    (one.after, subst (λ (mine : List Event). Contains mine (Noted (record { session = session; kind = Fault; after = one.after }))) (sym one.is) (fault_in session one.after))

pub failures_are_noted : {D : Type 0} (moment : D → Moment) → FailuresAreNoted moment
failures_are_noted moment r read failed untried adds =
    one_fault (start moment r.lent.shared) (session_of r.lent.seat) (seen r.lent.seat) (seen r.seat) adds.own adds.adds adds.note (untried is_fault) (read.faults failed)
