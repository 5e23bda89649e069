-- A change that was fresh since a pin.
use Rattle.std.proofs.Common.{◌≡◌, ◌∙◌, ℕ, Bool, true, false, if◌then◌else◌, nat_eq, None, Some, refl, [], ◌+◌, ◌-◌, ◌∷◌, ◌++◌, length, drop, ap, sym, subst, arith}
use Rattle.std.proofs.lemmas.Bool.{eqb-true}
use Rattle.std.proofs.lemmas.Option.{none-some, same_Some}
use Rattle.std.proofs.lemmas.List.{length-reverse}
use Rattle.event_core.specs.declared.entry.Entry.{Entry}
use Rattle.event_core.specs.declared.entry.Entry.TheVariants.{Pin, Unpin, Commit, Reap}
use Rattle.event_core.specs.History.{History, pin_before, up_to}
use Rattle.store_versions.proofs.Pins.{beginnings_are_kept}
use Rattle.array_store.specs.Fresh.{IsFresh}
use Rattle.array_store.specs.FreshLaws.{SameRoom}
use Rattle.store_ledger.specs.Ledger.{history}
use Rattle.snapshot_manager.proofs.FreshChanges.{fresh_since}
use Rattle.snapshot_manager.specs.Told.{entries_in, ledger_of}
use Rattle.session_answers.specs.Freshly.{FreshChangesAreLeftSince}

abbrev Splits : ℕ → History → History → Type 0
Splits s h before = (later : History) × (h ≡ later ++ Pin s ∷ before)

splits_more : (s : ℕ) (entry : Entry) (rest before : History) → Splits s rest before → Splits s (entry ∷ rest) before
splits_more s entry rest before p = (entry ∷ p.0, ap (λ (h : History). entry ∷ h) p.1)

splits_pin : (b : Bool) (s t : ℕ) (rest before : History) → nat_eq t s ≡ b → (if b then Some rest else pin_before s rest) ≡ Some before →
    (pin_before s rest ≡ Some before → Splits s rest before) → Splits s (Pin t ∷ rest) before
splits_pin true s t rest before same e others =
    ([], ap (λ (n : ℕ). Pin n ∷ rest) (eqb-true t s same) ∙ ap (λ (h : History). Pin s ∷ h) (same_Some rest before e))
splits_pin false s t rest before same e others = splits_more s (Pin t) rest before (others e)

splits_unpin : (b : Bool) (s t : ℕ) (rest before : History) → (if b then None else pin_before s rest) ≡ Some before →
    (pin_before s rest ≡ Some before → Splits s rest before) → Splits s (Unpin t ∷ rest) before
splits_unpin true s t rest before e others = absurd (none-some before e)
splits_unpin false s t rest before e others = splits_more s (Unpin t) rest before (others e)

pin_splits : (s : ℕ) (h before : History) → pin_before s h ≡ Some before → Splits s h before
pin_splits s [] before e = absurd (none-some before e)
pin_splits s (Pin t ∷ rest) before e = splits_pin (nat_eq t s) s t rest before refl e (pin_splits s rest before)
pin_splits s (Unpin t ∷ rest) before e = splits_unpin (nat_eq t s) s t rest before e (pin_splits s rest before)
pin_splits s (Commit t change used ∷ rest) before e = splits_more s (Commit t change used) rest before (pin_splits s rest before e)
pin_splits s (Reap ∷ rest) before e = splits_more s Reap rest before (pin_splits s rest before e)

all_kept : (h : History) (n : ℕ) → n ≡ length h → up_to n h ≡ h
all_kept h n e = let zero : length h - n ≡ 0 = omega (arith, e) in ap (λ (k : ℕ). drop k h) zero

pub fresh_changes_are_left_since : (D : Type 0) → FreshChangesAreLeftSince D
fresh_changes_are_left_since D start events pinned change o fresh =
    let h : History = history (ledger_of start events) in
    let splits : (later : History) × (h ≡ later ++ Pin pinned.session ∷ o.before) = pin_splits pinned.session h o.before o.begun in
    let later : History = splits.0 in
    let before : History = Pin pinned.session ∷ o.before in
    let f : IsFresh start.base later before change = fresh_since (ledger_of start events) pinned change o fresh later o.before splits.1 (sym o.place) in
    let count : pinned.place + 1 ≡ length before = omega (arith, o.place) in
    let here : up_to (pinned.place + 1) h ≡ before =
    ap (λ (n : ℕ). up_to n h) count ∙ ap (up_to (length before)) splits.1 ∙ beginnings_are_kept later before in
    record {
      later = later;
      grown = all_kept h (length (entries_in events)) (sym (length-reverse (entries_in events))) ∙ splits.1 ∙ ap (λ (back : History). later ++ back) (sym here);
      left = f.left;
      room = subst (λ (back : History). SameRoom start.base later back) (sym here) f.room;
    }
