-- What a commit that is tried adds to the events.
use Rattle.std.proofs.Common.{◌≡◌, ◌∙◌, ℕ, Bool, true, false, ◌&&◌, nat_le, List, [], ◌∷◌, ◌++◌, length, Result, Ok, Err, refl, ap, sym, subst, arith, append_assoc}
use Rattle.std.specs.List.{list_all}
use Rattle.std.proofs.lemmas.Bool.Decides.{nat_tests}
use Rattle.std.proofs.lemmas.List.Folds.{list_all-append}
use Rattle.event_core.specs.declared.entry.Entry.TheVariants.{Reap}
use Rattle.store_ledger.specs.declared.note.Note.{Note}
use Rattle.plan_changes.specs.declared.change.Change.{Change}
use Rattle.store_ledger.specs.Ledger.{attempt, note_now}
use Rattle.store_opening.specs.Event.{Event}
use Rattle.store_opening.specs.Event.TheVariants.{Entered, Noted}
use Rattle.store_opening.specs.Events.{events}
use Rattle.store_opening.specs.Standings.{Standing, with_notes}
use Rattle.prepared_commits.specs.declared.commits.fault.PrepareFault.{PrepareFault}
use Rattle.prepared_commits.specs.declared.commits.fault.PrepareFault.TheVariants.{SequenceEnd, Full, Memory}
use Rattle.store_sealing.specs.Parts.{is_short}
use Rattle.store_sealing.specs.Left.{IsLeft, reaped_if, tried_now}
use Rattle.array_store.specs.Growth.{AddsEvents, IsCounted, tried_events}
use Rattle.array_store.proofs.Added.{entries_add_events, notes_add_events}

pub adds_both : {D : Type 0} (more rest : List Event) (s t u : Standing D) → AddsEvents more s t → AddsEvents rest t u → AddsEvents (more ++ rest) s u
adds_both more rest s t u a b = record {
  start = b.start ∙ a.start;
  grown = b.grown ∙ ap (λ (es : List Event). es ++ rest) a.grown ∙ append_assoc (events s) more rest;
}

both_true : (a b : Bool) → a ≡ true → b ≡ true → (a && (b && true)) ≡ true
both_true true true e f = refl
both_true true false e f = f
both_true false b e f = e

le_same : (n m : ℕ) → n ≡ m → nat_le n m ≡ true
le_same n m e = grind (arith, nat_tests)

note_counted : {D : Type 0} (s : Standing D) (note : Note) → note.after ≡ length s.ledger.entries → IsCounted s → IsCounted (with_notes (note ∷ []) s)
note_counted s note at_end counted =
    let within = λ (one : Note). nat_le one.after (length s.ledger.entries) in
    record {
      within = list_all-append within s.ledger.notes (note ∷ [])
          ∙ both_true (list_all within s.ledger.notes) (within note) counted.within (le_same note.after (length s.ledger.entries) at_end);
      acked = counted.acked;
      made = counted.made;
    }

module _ {D : Type 0} (session : ℕ) (change : Change) (s : Standing D) (counted : IsCounted s) where
  adds_try : (comes : Bool) → AddsEvents (tried_events comes s.ledger session change) s (reaped_if comes (tried_now session change s))
  adds_try true =
      let note : Note = note_now (attempt change) s.ledger session in
      adds_both (Noted note ∷ []) (Entered Reap ∷ []) s (tried_now session change s) (reaped_if true (tried_now session change s)) (notes_add_events D s note refl)
      (entries_add_events D (tried_now session change s) Reap (note_counted s note refl counted) refl)
  adds_try false = notes_add_events D s (note_now (attempt change) s.ledger session) refl

  adds_so : (comes : Bool) (new : Standing D) → new ≡ reaped_if comes (tried_now session change s) → AddsEvents (tried_events comes s.ledger session change) s new
  adds_so comes new e = subst (AddsEvents (tried_events comes s.ledger session change) s) (sym e) (adds_try comes)

  pub left_adds : {A : Type 0} (needed : ℕ) (result : Result A PrepareFault) (new : Standing D) → IsLeft needed (tried_now session change s) result new →
      (comes : Bool) × (new ≡ reaped_if comes (tried_now session change s)) × AddsEvents (tried_events comes s.ledger session change) s new
  left_adds needed (Ok x) new e = let comes : Bool = is_short needed (tried_now session change s).ledger in (comes, e, adds_so comes new e)
  left_adds needed (Err SequenceEnd) new e = (false, e, adds_so false new e)
  left_adds needed (Err (Full most free)) new e = let comes : Bool = is_short needed (tried_now session change s).ledger in (comes, e, adds_so comes new e)
  left_adds needed (Err Memory) new e = let comes : Bool = e.0 && is_short needed (tried_now session change s).ledger in (comes, e.1, adds_so comes new e.1)
