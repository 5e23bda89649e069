-- What a ledger keeps, entry by entry.
use Rattle.std.proofs.Common.{◌≡◌, ◌∙◌, ℕ, suc, ◌+◌, ◌*◌, ◌<◌, ◌≤◌, Bool, true, false, not, ◌&&◌, ◌||◌, if◌then◌else◌, nat_eq, nat_le, List, [], ◌∷◌, ◌++◌, length, reverse, Option, None, Some, IsTrue, refl, ap, sym, subst, arith, zero-add}
use Rattle.std.specs.List.{filter, list_all, sum_by}
use Rattle.std.proofs.lemmas.Bool.{and_from, and_parts, eq-eqb}
use Rattle.std.proofs.lemmas.List.Sums.{sum_by-cons, sum_by_push}
use Rattle.store_versions.specs.Change.{Change}
use Rattle.store_versions.specs.Used.{Used}
use Rattle.store_versions.specs.Entry.TheVariants.{Pin, Unpin, Commit, Reap}
use Rattle.store_versions.specs.Core.{Core}
use Rattle.event_core.specs.Allowed.{IsBase, is_allowed, allows, is_pinned}
use Rattle.store_versions.specs.History.{History, OpenPin, open_pins, pin_before}
use Rattle.store_versions.specs.Legal.{has_committed}
use Rattle.store_versions.specs.Replay.{core_after}
use Rattle.store_versions.proofs.Steps.{core_step, core_start}
use Rattle.store_versions.proofs.Tests.{both_not, eq_sym}
use Rattle.store_versions.specs.Pins.{pins_of}
use Rattle.store_versions.proofs.Pins.{open_pins_are_these}
use Rattle.store_ledger.specs.declared.note.Note.{Note}
use Rattle.store_ledger.specs.Ledger.{causes, has_note, is_fault, is_tried, is_under, reaps, reserved_by}
use Rattle.store_ledger.specs.Inner.Kept.{IsKept, entries_to_come, notes_to_come}
use Rattle.store_ledger.proofs.Notes.{noted_on, within_all, any_reverse}
use Rattle.store_ledger.proofs.Pins.{unnoted, split}
use Rattle.store_ledger.proofs.Tried.{same_sum}
use Rattle.store_ledger.proofs.Waiting.{few_commit, few_first, few_pin, few_reap, few_unpin}

-- ---- the same over equal parts, and over more room

pub kept_as : (base : Core) (limit : ℕ) (h j : History) (ns ms : List Note) (core lore : Core) (r s er nr p : ℕ) →
    IsKept base limit h ns core r er nr p → j ≡ h → ms ≡ ns → lore ≡ core → s ≡ r → IsKept base limit j ms lore s er nr p
kept_as base limit h j ns ms core lore r s er nr p k eh en ec es =
    subst (λ (x : History). IsKept base limit x ms lore s er nr p) (sym eh)
    (subst (λ (x : List Note). IsKept base limit h x lore s er nr p) (sym en)
    (subst (λ (x : Core). IsKept base limit h ns x s er nr p) (sym ec)
    (subst (λ (x : ℕ). IsKept base limit h ns core x er nr p) (sym es) k)))

pub kept_wider : (base : Core) (limit : ℕ) (h : History) (notes : List Note) (core : Core) (r er nr p er2 nr2 p2 : ℕ) →
    IsKept base limit h notes core r er nr p → er ≤ er2 → nr ≤ nr2 → p2 ≡ p → IsKept base limit h notes core r er2 nr2 p2
kept_wider base limit h notes core r er nr p er2 nr2 p2 k more_entries more_notes same =
    let fe : length h + sum_by (entries_to_come h) (open_pins h) ≤ er2 = omega (arith, k.for_entries, more_entries) in
    let fn : length notes + sum_by (notes_to_come notes) (open_pins h) ≤ nr2 = omega (arith, k.for_notes, more_notes) in
    record {
      begins = k.begins;
      allowed = k.allowed;
      made = k.made;
      noted = k.noted;
      reserved = k.reserved;
      within = k.within;
      for_entries = fe;
      for_notes = fn;
      marks = same ∙ k.marks;
      few = k.few;
    }

-- ---- the beginning

pub kept_first : (base : Core) (limit er nr p : ℕ) → IsBase base → p ≡ base.limit → IsKept base limit [] [] base 0 er nr p
kept_first base limit er nr p b e = record {
  begins = b;
  allowed = refl;
  made = core_start base b;
  noted = tt;
  reserved = refl;
  within = omega arith;
  for_entries = omega arith;
  for_notes = omega arith;
  marks = e;
  few = few_first base b;
}

-- ---- no pin takes more than twice as many entries or notes as it reserves

sums_below : (f g : OpenPin → ℕ) → ((pin : OpenPin) → f pin ≤ 2 * g pin) → (pins : List OpenPin) → sum_by f pins ≤ 2 * sum_by g pins
sums_below f g le [] = let none : sum_by f [] ≡ 0 = refl in omega (arith, none)
sums_below f g le (pin ∷ pins) =
    let one : sum_by f (pin ∷ pins) ≡ f pin + sum_by f pins = sum_by-cons f pin pins in
    let two : sum_by g (pin ∷ pins) ≡ g pin + sum_by g pins = sum_by-cons g pin pins in
    omega (arith, one, two, le pin, sums_below f g le pins)

entries_at : (a b : Bool) → (if a then 1 else 2) ≤ 2 * (if b then 1 else 3)
entries_at true true = omega arith
entries_at true false = omega arith
entries_at false true = omega arith
entries_at false false = omega arith

entries_fit : (h : History) (notes : List Note) (pin : OpenPin) → entries_to_come h pin ≤ 2 * reserved_by notes pin
entries_fit h notes pin = entries_at (has_committed pin.session h) (has_note is_tried notes pin)

notes_at : (a b : Bool) → (if a then 0 else 1) + (if b then 0 else 1) ≤ 2 * (if b then 1 else 3)
notes_at true true = omega arith
notes_at true false = omega arith
notes_at false true = omega arith
notes_at false false = omega arith

notes_fit : (notes : List Note) (pin : OpenPin) → notes_to_come notes pin ≤ 2 * reserved_by notes pin
notes_fit notes pin = notes_at (has_note is_fault notes pin) (has_note is_tried notes pin)

-- ---- pins

pub kept_pin : (base : Core) (limit : ℕ) (h : History) (notes : List Note) (core : Core) (r er nr p : ℕ) (session er2 nr2 : ℕ) →
    IsKept base limit h notes core r er nr p → IsTrue (not (is_pinned session h)) → length h + r + 4 ≤ limit →
    length h + (2 * r + 7) ≤ er2 → length notes + (2 * r + 7) ≤ nr2 →
    IsKept base limit (Pin session ∷ h) notes (core_after core (Pin session)) (r + 3) er2 nr2 p
kept_pin base limit h notes core r er nr p session er2 nr2 k free room re rn =
    let begun : OpenPin = record { session = session; before = h } in
    let all : list_all (λ note. nat_le note.after (length h)) (reverse notes) ≡ true = within_all h (reverse notes) k.noted in
    let none : has_note is_tried notes begun ≡ false = sym (any_reverse (is_under is_tried begun) notes) ∙ unnoted is_tried begun (length h) (reverse notes) refl all in
    let three : reserved_by notes begun ≡ 3 = ap (λ (b : Bool). if b then 1 else 3) none in
    let sum : sum_by (reserved_by notes) (open_pins h ++ begun ∷ []) ≡ sum_by (reserved_by notes) (open_pins h) + reserved_by notes begun =
    sum_by_push (reserved_by notes) (open_pins h) begun in
    let res : r + 3 ≡ sum_by (reserved_by notes) (open_pins h ++ begun ∷ []) = omega (arith, k.reserved, sum, three) in
    let es : sum_by (entries_to_come (Pin session ∷ h)) (open_pins h ++ begun ∷ []) ≤ 2 * sum_by (reserved_by notes) (open_pins h ++ begun ∷ []) =
    sums_below (entries_to_come (Pin session ∷ h)) (reserved_by notes) (entries_fit (Pin session ∷ h) notes) (open_pins h ++ begun ∷ []) in
    let ns : sum_by (notes_to_come notes) (open_pins h ++ begun ∷ []) ≤ 2 * sum_by (reserved_by notes) (open_pins h ++ begun ∷ []) =
    sums_below (notes_to_come notes) (reserved_by notes) (notes_fit notes) (open_pins h ++ begun ∷ []) in
    let all_within : suc (length h) + (r + 3) ≤ limit = omega (arith, room) in
    let fe : suc (length h) + sum_by (entries_to_come (Pin session ∷ h)) (open_pins h ++ begun ∷ []) ≤ er2 = omega (arith, es, res, re) in
    let fn : length notes + sum_by (notes_to_come notes) (open_pins h ++ begun ∷ []) ≤ nr2 = omega (arith, ns, res, rn) in
    record {
      begins = k.begins;
      allowed = and_from (is_allowed base h) (not (is_pinned session h)) k.allowed free;
      made = ap (λ (c : Core). core_after c (Pin session)) k.made ∙ sym (core_step base h (Pin session));
      noted = noted_on (Pin session) h (reverse notes) k.noted;
      reserved = res;
      within = all_within;
      for_entries = fe;
      for_notes = fn;
      marks = k.marks;
      few = few_pin base session h notes k.few;
    }

-- ---- the open pin of a session

pinned_or : (b : Bool) (rest before : History) (y : Option History) (p : Bool) → (if b then Some rest else y) ≡ Some before → (y ≡ Some before → p ≡ true) → (b || p) ≡ true
pinned_or true rest before y p e f = refl
pinned_or false rest before y p e f = f e

pinned_and : (b : Bool) (before : History) (y : Option History) (p : Bool) → (if b then None else y) ≡ Some before → (y ≡ Some before → p ≡ true) → (not b && p) ≡ true
pinned_and true before y p e f = cc
pinned_and false before y p e f = f e

-- a session with an open pin is pinned
pub pinned_of : (s : ℕ) (h before : History) → pin_before s h ≡ Some before → is_pinned s h ≡ true
pinned_of s [] before e = cc
pinned_of s (Pin t ∷ rest) before e = pinned_or (nat_eq t s) rest before (pin_before s rest) (is_pinned s rest) e (pinned_of s rest before)
pinned_of s (Unpin t ∷ rest) before e = pinned_and (nat_eq t s) before (pin_before s rest) (is_pinned s rest) e (pinned_of s rest before)
pinned_of s (Commit t change used ∷ rest) before e = pinned_of s rest before e
pinned_of s (Reap ∷ rest) before e = pinned_of s rest before e

begun_or : (b : Bool) (rest : History) (p : Bool) (y : Option History) → (b || p) ≡ true → (p ≡ true → (before : History) × (y ≡ Some before)) →
    (before : History) × ((if b then Some rest else y) ≡ Some before)
begun_or true rest p y e f = (rest, refl)
begun_or false rest p y e f = f e

begun_and : (b : Bool) (p : Bool) (y : Option History) → (not b && p) ≡ true → (p ≡ true → (before : History) × (y ≡ Some before)) →
    (before : History) × ((if b then None else y) ≡ Some before)
begun_and true p y e f = absurd (both_not false refl e)
begun_and false p y e f = f e

-- a pinned session has an open pin
pub begun_of : (s : ℕ) (h : History) → is_pinned s h ≡ true → (before : History) × (pin_before s h ≡ Some before)
begun_of s [] e = absurd (both_not false refl e)
begun_of s (Pin t ∷ rest) e = begun_or (nat_eq t s) rest (is_pinned s rest) (pin_before s rest) e (begun_of s rest)
begun_of s (Unpin t ∷ rest) e = begun_and (nat_eq t s) (is_pinned s rest) (pin_before s rest) e (begun_of s rest)
begun_of s (Commit t change used ∷ rest) e = begun_of s rest e
begun_of s (Reap ∷ rest) e = begun_of s rest e

-- a sum over the open pins is that over those of others, and the session's own
pub own_sum : (f : OpenPin → ℕ) (base : Core) (session : ℕ) (h before : History) → IsTrue (is_allowed base h) → pin_before session h ≡ Some before →
    sum_by f (open_pins h) ≡ sum_by f (filter (λ pin. not (nat_eq pin.session session)) (open_pins h)) + f (record { session = session; before = before })
own_sum f base session h before ok begun =
    let own : OpenPin = record { session = session; before = before } in
    split f (λ pin. nat_eq pin.session session) (open_pins h)
    ∙ ap (λ (n : ℕ). sum_by f (filter (λ pin. not (nat_eq pin.session session)) (open_pins h)) + n)
    (ap (sum_by f) (open_pins_are_these base session h ok ∙ ap (pins_of session) begun) ∙ sum_by_push f [] own ∙ zero-add (f own))

-- ---- unpins

one_at : (b : Bool) → 1 ≤ (if b then 1 else 2)
one_at true = omega arith
one_at false = omega arith

pub some_at : (b : Bool) → 1 ≤ (if b then 1 else 3)
some_at true = omega arith
some_at false = omega arith

-- what an unpin gives back is reserved
pub given_back : (base : Core) (limit : ℕ) (h : History) (notes : List Note) (core : Core) (r er nr p : ℕ) (session : ℕ) (before : History) →
    IsKept base limit h notes core r er nr p → pin_before session h ≡ Some before → reserved_by notes (record { session = session; before = before }) ≤ r
given_back base limit h notes core r er nr p session before k begun =
    let sum : sum_by (reserved_by notes) (open_pins h) ≡ sum_by (reserved_by notes) (filter (λ pin. not (nat_eq pin.session session)) (open_pins h)) + reserved_by notes (record { session = session; before = before }) =
    own_sum (reserved_by notes) base session h before k.allowed begun in
    omega (arith, k.reserved, sum)

pub kept_unpin : (base : Core) (limit : ℕ) (h : History) (notes : List Note) (core : Core) (r er nr p : ℕ) (session : ℕ) (before : History) (left : ℕ) →
    IsKept base limit h notes core r er nr p → pin_before session h ≡ Some before → left + reserved_by notes (record { session = session; before = before }) ≡ r →
    IsKept base limit (Unpin session ∷ h) notes (core_after core (Unpin session)) left er nr p
kept_unpin base limit h notes core r er nr p session before left k begun took =
    let own : OpenPin = record { session = session; before = before } in
    let rs : sum_by (reserved_by notes) (open_pins h) ≡ sum_by (reserved_by notes) (filter (λ pin. not (nat_eq pin.session session)) (open_pins h)) + reserved_by notes own =
    own_sum (reserved_by notes) base session h before k.allowed begun in
    let es : sum_by (entries_to_come h) (open_pins h) ≡ sum_by (entries_to_come h) (filter (λ pin. not (nat_eq pin.session session)) (open_pins h)) + entries_to_come h own =
    own_sum (entries_to_come h) base session h before k.allowed begun in
    let ns : sum_by (notes_to_come notes) (open_pins h) ≡ sum_by (notes_to_come notes) (filter (λ pin. not (nat_eq pin.session session)) (open_pins h)) + notes_to_come notes own =
    own_sum (notes_to_come notes) base session h before k.allowed begun in
    let one : 1 ≤ entries_to_come h own = one_at (has_committed session h) in
    let some : 1 ≤ reserved_by notes own = some_at (has_note is_tried notes own) in
    let res : left ≡ sum_by (reserved_by notes) (filter (λ pin. not (nat_eq pin.session session)) (open_pins h)) = omega (arith, k.reserved, rs, took) in
    let all_within : suc (length h) + left ≤ limit = omega (arith, k.within, took, some) in
    let fe : suc (length h) + sum_by (entries_to_come h) (filter (λ pin. not (nat_eq pin.session session)) (open_pins h)) ≤ er = omega (arith, k.for_entries, es, one) in
    let fn : length notes + sum_by (notes_to_come notes) (filter (λ pin. not (nat_eq pin.session session)) (open_pins h)) ≤ nr = omega (arith, k.for_notes, ns) in
    record {
      begins = k.begins;
      allowed = and_from (is_allowed base h) (is_pinned session h) k.allowed (pinned_of session h before begun);
      made = ap (λ (c : Core). core_after c (Unpin session)) k.made ∙ sym (core_step base h (Unpin session));
      noted = noted_on (Unpin session) h (reverse notes) k.noted;
      reserved = res;
      within = all_within;
      for_entries = fe;
      for_notes = fn;
      marks = k.marks;
      few = few_unpin base session h notes k.few;
    }

-- there is room for one more entry while a session is pinned
pub one_fits : (base : Core) (limit : ℕ) (h : History) (notes : List Note) (core : Core) (r er nr p : ℕ) (session : ℕ) (before : History) →
    IsKept base limit h notes core r er nr p → pin_before session h ≡ Some before → suc (length h) ≤ er
one_fits base limit h notes core r er nr p session before k begun =
    let own : OpenPin = record { session = session; before = before } in
    let es : sum_by (entries_to_come h) (open_pins h) ≡ sum_by (entries_to_come h) (filter (λ pin. not (nat_eq pin.session session)) (open_pins h)) + entries_to_come h own =
    own_sum (entries_to_come h) base session h before k.allowed begun in
    let one : 1 ≤ entries_to_come h own = one_at (has_committed session h) in
    omega (arith, k.for_entries, es, one)

-- ---- reaps

pub kept_reap : (base : Core) (limit : ℕ) (h : History) (notes : List Note) (core : Core) (r er nr p er2 : ℕ) →
    IsKept base limit h notes core r er nr p → length h + r + 1 ≤ limit → reaps h < causes h notes → length h + (2 * r + 1) ≤ er2 →
    IsKept base limit (Reap ∷ h) notes (core_after core Reap) r er2 nr p
kept_reap base limit h notes core r er nr p er2 k room may re =
    let es : sum_by (entries_to_come h) (open_pins h) ≤ 2 * sum_by (reserved_by notes) (open_pins h) =
    sums_below (entries_to_come h) (reserved_by notes) (entries_fit h notes) (open_pins h) in
    let all_within : suc (length h) + r ≤ limit = omega (arith, room) in
    let fe : suc (length h) + sum_by (entries_to_come h) (open_pins h) ≤ er2 = omega (arith, es, k.reserved, re) in
    record {
      begins = k.begins;
      allowed = and_from (is_allowed base h) true k.allowed refl;
      made = ap (λ (c : Core). core_after c Reap) k.made ∙ sym (core_step base h Reap);
      noted = noted_on Reap h (reverse notes) k.noted;
      reserved = k.reserved;
      within = all_within;
      for_entries = fe;
      for_notes = k.for_notes;
      marks = k.marks;
      few = few_reap base h notes may;
    }

-- ---- commits

pub kept_commit : (base : Core) (limit : ℕ) (h : History) (notes : List Note) (core : Core) (r er nr p : ℕ) (session : ℕ) (change : Change) (used : Used) →
    IsKept base limit h notes core r er nr p → IsTrue (allows base h (Commit session change used)) → has_committed session h ≡ false → length h + r + 1 ≤ limit →
    IsKept base limit (Commit session change used ∷ h) notes (core_after core (Commit session change used)) r er nr p
kept_commit base limit h notes core r er nr p session change used k ok first room =
    let b : (before : History) × (pin_before session h ≡ Some before) = begun_of session h (and_parts (is_pinned session h) _ ok).0 in
    let own : OpenPin = record { session = session; before = b.0 } in
    let fs : sum_by (entries_to_come h) (open_pins h) ≡ sum_by (entries_to_come h) (filter (λ pin. not (nat_eq pin.session session)) (open_pins h)) + entries_to_come h own =
    own_sum (entries_to_come h) base session h b.0 k.allowed b.1 in
    let gs : sum_by (entries_to_come (Commit session change used ∷ h)) (open_pins h)
    ≡ sum_by (entries_to_come (Commit session change used ∷ h)) (filter (λ pin. not (nat_eq pin.session session)) (open_pins h)) + entries_to_come (Commit session change used ∷ h) own =
    own_sum (entries_to_come (Commit session change used ∷ h)) base session h b.0 k.allowed b.1 in
    let others : sum_by (entries_to_come h) (filter (λ pin. not (nat_eq pin.session session)) (open_pins h))
    ≡ sum_by (entries_to_come (Commit session change used ∷ h)) (filter (λ pin. not (nat_eq pin.session session)) (open_pins h)) =
    same_sum (entries_to_come h) (entries_to_come (Commit session change used ∷ h)) (λ pin. nat_eq pin.session session)
    (λ pin e. ap (λ (c : Bool). if (c || has_committed pin.session h) then 1 else 2) (sym (eq_sym session pin.session ∙ e))) (open_pins h) in
    let two : entries_to_come h own ≡ 2 = ap (λ (c : Bool). if c then 1 else 2) first in
    let one : entries_to_come (Commit session change used ∷ h) own ≡ 1 = ap (λ (c : Bool). if (c || has_committed session h) then 1 else 2) (eq-eqb session session refl) in
    let all_within : suc (length h) + r ≤ limit = omega (arith, room) in
    let fe : suc (length h) + sum_by (entries_to_come (Commit session change used ∷ h)) (open_pins h) ≤ er = omega (arith, k.for_entries, fs, gs, others, two, one) in
    record {
      begins = k.begins;
      allowed = and_from (is_allowed base h) (allows base h (Commit session change used)) k.allowed ok;
      made = ap (λ (c : Core). core_after c (Commit session change used)) k.made ∙ sym (core_step base h (Commit session change used));
      noted = noted_on (Commit session change used) h (reverse notes) k.noted;
      reserved = k.reserved;
      within = all_within;
      for_entries = fe;
      for_notes = k.for_notes;
      marks = k.marks;
      few = few_commit base session change used h notes k.few;
    }
