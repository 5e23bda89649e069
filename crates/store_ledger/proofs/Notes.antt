-- Notes beside a history that grows.
use Rattle.std.proofs.Common.{◌≡◌, ◌∙◌, ℕ, suc, ◌-◌, ◌≤◌, Bool, true, false, ◌||◌, nat_le, List, [], ◌∷◌, length, drop, reverse, IfSome, IsTrue, refl, ap, sym, subst, arith}
use Rattle.std.specs.List.{list_any, list_all}
use Rattle.std.proofs.lemmas.Bool.{and_from}
use Rattle.std.proofs.lemmas.Bool.Decides.{nat_tests}
use Rattle.std.proofs.lemmas.List.{reverse-append}
use Rattle.std.proofs.lemmas.List.Folds.{list_any-append}
use Rattle.store_versions.specs.Entry.{Entry}
use Rattle.event_core.specs.Allowed.{is_pinned}
use Rattle.store_versions.specs.History.{History, pin_before, up_to}
use Rattle.store_ledger.specs.declared.note.Note.{Note}
use Rattle.store_ledger.specs.Ledger.{AreNoted, IsNote, has_note, is_kind}

later_same : (place : ℕ) (entry : Entry) (h : History) → place ≤ length h → up_to place (entry ∷ h) ≡ up_to place h
later_same place entry h within =
    let e : suc (length h) - place ≡ suc (length h - place) = omega (arith, within) in
    ap (λ (n : ℕ). drop n (entry ∷ h)) e

-- what stands beside a history stands beside it with one more entry
pub noted_on : (entry : Entry) (h : History) (notes : List Note) → AreNoted h notes → AreNoted (entry ∷ h) notes
noted_on entry h [] k = tt
noted_on entry h (note ∷ others) k =
    let n : IsNote h others note = k.1 in
    let more : note.after ≤ suc (length h) = omega (arith, n.within) in
    let same : up_to note.after h ≡ up_to note.after (entry ∷ h) = sym (later_same note.after entry h n.within) in (
      noted_on entry h others k.0,
      record {
        within = more;
        rising = n.rising;
        pinned = subst (λ (before : History). IsTrue (is_pinned note.session before)) same n.pinned;
        once = subst (λ (before : History). IfSome (pin_before note.session before) (λ b. has_note (is_kind note.kind) others (record { session = note.session; before = b }) ≡ false)) same n.once;
      },
    )

le_test : (n m : ℕ) → n ≤ m → nat_le n m ≡ true
le_test n m e = grind (arith, nat_tests)

-- none of them has more entries before it than there are
pub within_all : (h : History) (notes : List Note) → AreNoted h notes → list_all (λ note. nat_le note.after (length h)) notes ≡ true
within_all h [] k = refl
within_all h (note ∷ others) k =
    let n : IsNote h others note = k.1 in
    and_from (nat_le note.after (length h)) (list_all (λ other. nat_le other.after (length h)) others) (le_test note.after (length h) n.within) (within_all h others k.0)

swapped : (a b : Bool) → (a || (b || false)) ≡ (b || a)
swapped true true = refl
swapped true false = refl
swapped false true = refl
swapped false false = refl

pub any_reverse : (p : Note → Bool) (notes : List Note) → list_any p (reverse notes) ≡ list_any p notes
any_reverse p [] = refl
any_reverse p (note ∷ notes) =
    ap (list_any p) (reverse-append (note ∷ []) notes)
    ∙ list_any-append p (reverse notes) (note ∷ [])
    ∙ swapped (list_any p (reverse notes)) (p note)
    ∙ ap (λ (b : Bool). p note || b) (any_reverse p notes)
