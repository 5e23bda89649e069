-- Where the entry of an open pin stands.
use Rattle.std.proofs.Common.{◌≡◌, ◌∙◌, ℕ, Bool, true, false, if◌then◌else◌, nat_eq, List, [], ◌∷◌, ◌++◌, length, reverse, slice_get, None, Some, refl, ap, sym}
use Rattle.std.proofs.lemmas.Bool.{eqb-true}
use Rattle.std.proofs.lemmas.Option.{none-some, same_Some}
use Rattle.std.proofs.lemmas.List.{length-reverse, reverse-reverse}
use Rattle.event_core.specs.declared.entry.Entry.{Entry}
use Rattle.event_core.specs.declared.entry.Entry.TheVariants.{Pin, Unpin, Commit, Reap}
use Rattle.event_core.specs.History.{History, names_at, pin_before, up_to}
use Rattle.store_versions.proofs.Pins.{places_tell_pins}
use Rattle.array_store.specs.Told.{entries_in}
use Rattle.session_answers.specs.RepliesLaws.{OpenPinsAreEntered}
use Rattle.session_answers.proofs.BehindPins.{turned}

-- a history about a pin
record Behind (session : ℕ) (h before : History) : Type 0 where
  later : History
  is : h ≡ later ++ (Pin session ∷ before)

further : (session : ℕ) (entry : Entry) (h before : History) → Behind session h before → Behind session (entry ∷ h) before
further session entry h before found = record { later = entry ∷ found.later; is = ap (λ (all : History). entry ∷ all) found.is }

at_pin : (b : Bool) (session other : ℕ) (h before : History) → nat_eq other session ≡ b → (if b then Some h else pin_before session h) ≡ Some before →
    (pin_before session h ≡ Some before → Behind session h before) → Behind session (Pin other ∷ h) before
at_pin true session other h before same e found = record {
  later = [];
  is = ap (λ (k : ℕ). Pin k ∷ h) (eqb-true other session same) ∙ ap (λ (all : History). Pin session ∷ all) (same_Some h before e);
}
at_pin false session other h before same e found = further session (Pin other) h before (found e)

at_unpin : (b : Bool) (session other : ℕ) (h before : History) → (if b then None else pin_before session h) ≡ Some before →
    (pin_before session h ≡ Some before → Behind session h before) → Behind session (Unpin other ∷ h) before
at_unpin true session other h before e found = absurd (none-some before e)
at_unpin false session other h before e found = further session (Unpin other) h before (found e)

found_behind : (session : ℕ) (h before : History) → pin_before session h ≡ Some before → Behind session h before
found_behind session [] before e = absurd (none-some before e)
found_behind session (Pin other ∷ h) before e = at_pin (nat_eq other session) session other h before refl e (found_behind session h before)
found_behind session (Unpin other ∷ h) before e = at_unpin (nat_eq other session) session other h before e (found_behind session h before)
found_behind session (Commit other change used ∷ h) before e = further session (Commit other change used) h before (found_behind session h before e)
found_behind session (Reap ∷ h) before e = further session Reap h before (found_behind session h before e)

-- the element behind others
pub get_seam : {A : Type 0} → (xs ys : List A) (y : A) → slice_get (xs ++ y ∷ ys) (length xs) ≡ Some y
get_seam [] ys y = refl
get_seam (x ∷ xs) ys y = get_seam xs ys y

entered : (entries : List Entry) (session : ℕ) (before : History) → Behind session (reverse entries) before → slice_get entries (length before) ≡ Some (Pin session)
entered entries session before found =
    let is : entries ≡ reverse before ++ Pin session ∷ reverse found.later =
    sym (reverse-reverse entries) ∙ ap reverse found.is ∙ turned found.later before (Pin session) in
    ap (λ (all : List Entry). slice_get all (length before)) is
    ∙ ap (slice_get (reverse before ++ Pin session ∷ reverse found.later)) (sym (length-reverse before))
    ∙ get_seam (reverse before) (reverse found.later) (Pin session)

pub open_pins_are_entered : (D : Type 0) → OpenPinsAreEntered D
open_pins_are_entered D start events pinned o =
    let h : History = reverse (entries_in events) in (
      ap (slice_get (entries_in events)) o.place ∙ entered (entries_in events) pinned.session o.before (found_behind pinned.session h o.before o.begun),
      ap (λ (n : ℕ). names_at start.base (up_to n h)) o.place ∙ (places_tell_pins pinned.session h o.before o.begun).names start.base ∙ sym o.names,
    )
