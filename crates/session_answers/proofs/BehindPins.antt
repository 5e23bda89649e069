-- What stands behind a pin.
use Rattle.std.proofs.Common.{◌≡◌, ◌∙◌, ℕ, zero, suc, ◌+◌, ◌-◌, List, [], ◌∷◌, ◌++◌, length, drop, reverse, slice_get, Some, refl, ap, sym, arith, append_assoc}
use Rattle.std.proofs.lemmas.Option.{none-some, same_Some}
use Rattle.std.proofs.lemmas.List.{length-reverse, reverse-append}
use Rattle.event_core.specs.Cells.{at}
use Rattle.event_core.specs.declared.entry.Entry.{Entry}
use Rattle.event_core.specs.declared.entry.Entry.TheVariants.{Pin}
use Rattle.event_core.specs.History.{History, names_at, up_to}
use Rattle.store_versions.specs.Versions.{directory_of}
use Rattle.store_state.specs.Calls.{entry_in, history_at}
use Rattle.store_state.specs.Standings.{versions_after}
use Rattle.array_store.specs.Told.{entries_in, told}
use Rattle.session_answers.specs.RepliesLaws.{PinsChangeNothing}
use Rattle.session_answers.proofs.Beginnings.{beginning_stays}

-- a list about the element at a place
record Split {A : Type 0} (xs : List A) (i : ℕ) (x : A) : Type 0 where
  front : List A
  back : List A
  is : xs ≡ front ++ x ∷ back
  count : length front ≡ i

split_at : {A : Type 0} → (xs : List A) (i : ℕ) (x : A) → slice_get xs i ≡ Some x → Split xs i x
split_at [] i x e = absurd (none-some x e)
split_at {A} (y ∷ xs) zero x e = record { front = []; back = xs; is = ap (λ (z : A). z ∷ xs) (same_Some y x e); count = refl }
split_at {A} (y ∷ xs) (suc i) x e =
    let s : Split xs i x = split_at xs i x e in
    record { front = y ∷ s.front; back = s.back; is = ap (λ (all : List A). y ∷ all) s.is; count = ap suc s.count }

all_kept : (h : History) (n : ℕ) → n ≡ length h → up_to n h ≡ h
all_kept h n e = let zero : length h - n ≡ 0 = omega (arith, e) in ap (λ (k : ℕ). drop k h) zero

-- the history about an entry, the newest first
pub turned : (front back : List Entry) (entry : Entry) → reverse (front ++ entry ∷ back) ≡ reverse back ++ (entry ∷ reverse front)
turned front back entry =
    ap reverse (sym (append_assoc front (entry ∷ []) back))
    ∙ reverse-append (front ++ entry ∷ []) back
    ∙ ap (λ (h : History). reverse back ++ h) (reverse-append front (entry ∷ []))

module _ (entries : List Entry) (place : ℕ) (entry : Entry) (s : Split entries place entry) where
  count : place ≡ length (reverse s.front)
  count = omega (arith, s.count, length-reverse s.front)

  whole : reverse entries ≡ reverse s.back ++ (entry ∷ reverse s.front)
  whole = ap reverse s.is ∙ turned s.front s.back entry

  here : up_to place (reverse entries) ≡ reverse s.front
  here =
      ap (up_to place) whole
      ∙ beginning_stays (reverse s.back) (entry ∷ reverse s.front) place (omega (arith, count))
      ∙ beginning_stays (entry ∷ []) (reverse s.front) place (omega (arith, count))
      ∙ all_kept (reverse s.front) place count

  next : up_to (place + 1) (reverse entries) ≡ entry ∷ reverse s.front
  next =
      ap (up_to (place + 1)) whole
      ∙ beginning_stays (reverse s.back) (entry ∷ reverse s.front) (place + 1) (omega (arith, count))
      ∙ all_kept (entry ∷ reverse s.front) (place + 1) (omega (arith, count))

  one_more : up_to (place + 1) (reverse entries) ≡ entry ∷ up_to place (reverse entries)
  one_more = next ∙ ap (λ (h : History). entry ∷ h) (sym here)

pub pins_change_nothing : (D : Type 0) → PinsChangeNothing D
pins_change_nothing D start session place events e =
    let entries : List Entry = entries_in events in
    let more : history_at (told start events) (place + 1) ≡ Pin session ∷ history_at (told start events) place =
    one_more entries place (Pin session) (split_at entries place (Pin session) e) in
    record {
      names = ap (names_at start.base) more;
      database = λ db. ap (at db) more;
      payloads = λ leaf k. ap (λ (h : History). entry_in (directory_of leaf.name leaf.version (versions_after (told start events) h)) k.items) more;
    }
