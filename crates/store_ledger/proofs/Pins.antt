-- Open pins over more entries and notes.
use Rattle.std.proofs.Common.{◌≡◌, ◌∙◌, ℕ, ◌+◌, Bool, true, false, not, ◌&&◌, ◌||◌, if◌then◌else◌, nat_eq, nat_le, nat_lt, List, [], ◌∷◌, ◌++◌, length, reverse, Option, None, Some, refl, ap, sym, arith, zero-add}
use Rattle.std.specs.List.{filter, list_all, sum_by}
use Rattle.std.proofs.lemmas.Bool.{and_parts, eq-eqb, or_from}
use Rattle.std.proofs.lemmas.Bool.Decides.{nat_tests}
use Rattle.std.proofs.lemmas.List.{reverse-append, length-reverse}
use Rattle.std.proofs.lemmas.List.Folds.{list_any-append}
use Rattle.std.proofs.lemmas.List.Sums.{sum_by-cons, sum_by_push}
use Rattle.store_versions.specs.Entry.{Entry}
use Rattle.store_versions.specs.Entry.TheVariants.{Pin, Unpin}
use Rattle.store_versions.specs.History.{History, OpenPin, open_pins, pin_before}
use Rattle.store_versions.proofs.Tests.{both_not}
use Rattle.store_versions.proofs.Pins.{open_pins_stay, open_pins_are_these}
use Rattle.store_versions.specs.Pins.{pins_of}
use Rattle.store_ledger.specs.declared.note.Note.{Note}
use Rattle.store_ledger.specs.declared.note.NoteKind.{NoteKind}
use Rattle.store_ledger.specs.Ledger.{is_tried, is_under, has_note, has_under, reserved_by}
use Rattle.store_ledger.specs.Laws.{NotesOutlast, PinsReserveThree, OpenPinsOutlast, UnpinsGiveBack}

late : (n count : ℕ) → nat_le n count ≡ true → nat_lt count n ≡ false
late n count e = grind (arith, nat_tests)

no_pass : (a b c : Bool) → c ≡ false → (a && (b && c)) ≡ false
no_pass true true c e = e
no_pass true false c e = refl
no_pass false b c e = refl

-- no note stands under a pin that has just begun
pub unnoted : (kinds : NoteKind → Bool) (pin : OpenPin) (count : ℕ) (notes : List Note) → count ≡ length pin.before → list_all (λ note. nat_le note.after count) notes ≡ true → has_note kinds notes pin ≡ false
unnoted kinds pin count [] e within = refl
unnoted kinds pin count (note ∷ notes) e within =
    let p : (nat_le note.after count ≡ true) × (list_all (λ other. nat_le other.after count) notes ≡ true) = and_parts (nat_le note.after count) (list_all (λ other. nat_le other.after count) notes) within in
    or_from (is_under kinds pin note) (has_note kinds notes pin)
    (no_pass (nat_eq note.session pin.session) (kinds note.kind) (nat_lt (length pin.before) note.after) (ap (λ k. nat_lt k note.after) (sym e) ∙ late note.after count p.0))
    (unnoted kinds pin count notes e p.1)

pub one_more : (entries : List Entry) (entry : Entry) → reverse (entries ++ entry ∷ []) ≡ entry ∷ reverse entries
one_more entries entry = reverse-append entries (entry ∷ [])

pub pins_reserve_three : PinsReserveThree
pins_reserve_three ledger session within =
    let h : History = reverse ledger.entries in
    let begun : OpenPin = record { session = session; before = h } in
    ap (λ (later : History). sum_by (reserved_by ledger.notes) (open_pins later)) (one_more ledger.entries (Pin session))
    ∙ sum_by_push (reserved_by ledger.notes) (open_pins h) begun
    ∙ ap (λ (b : Bool). sum_by (reserved_by ledger.notes) (open_pins h) + (if b then 1 else 3))
    (unnoted is_tried begun (length ledger.entries) ledger.notes (sym (length-reverse ledger.entries)) within)

pub open_pins_outlast : OpenPinsOutlast
open_pins_outlast ledger pinned entries notes leave o = record {
  before = o.before;
  begun = ap (pin_before pinned.session) (reverse-append ledger.entries entries)
      ∙ open_pins_stay pinned.session (reverse entries) (reverse ledger.entries) leave ∙ o.begun;
  place = o.place;
  names = o.names;
}

-- ---- what was noted under a pin

one_other : (a b c : Bool) → not (a && b) ≡ true → (a && (b && c)) ≡ false
one_other true true c e = absurd (both_not false refl e)
one_other true false c e = refl
one_other false b c e = refl

none_of : (session : ℕ) (kinds : NoteKind → Bool) (before : History) (notes : List Note) → list_all (λ note. not (nat_eq note.session session && kinds note.kind)) notes ≡ true
    → has_note kinds notes (record { session = session; before = before }) ≡ false
none_of session kinds before [] all = refl
none_of session kinds before (note ∷ notes) all =
    let p = and_parts (not (nat_eq note.session session && kinds note.kind)) (list_all (λ other. not (nat_eq other.session session && kinds other.kind)) notes) all in
    or_from (is_under kinds (record { session = session; before = before }) note) (has_note kinds notes (record { session = session; before = before }))
    (one_other (nat_eq note.session session) (kinds note.kind) (nat_lt (length before) note.after) p.0)
    (none_of session kinds before notes p.1)

or_nothing : (a b : Bool) → b ≡ false → (a || b) ≡ a
or_nothing true b e = refl
or_nothing false b e = e

under_more : (kinds : NoteKind → Bool) (session : ℕ) (o : Option History) (notes more : List Note) → list_all (λ note. not (nat_eq note.session session && kinds note.kind)) more ≡ true
    → has_under kinds (notes ++ more) session o ≡ has_under kinds notes session o
under_more kinds session None notes more all = refl
under_more kinds session (Some before) notes more all =
    list_any-append (is_under kinds (record { session = session; before = before })) notes more
    ∙ or_nothing (has_note kinds notes (record { session = session; before = before })) (has_note kinds more (record { session = session; before = before })) (none_of session kinds before more all)

pub notes_outlast : NotesOutlast
notes_outlast ledger session kinds entries notes leave others =
    under_more kinds session (pin_before session (reverse (ledger.entries ++ entries))) ledger.notes notes others
    ∙ ap (has_under kinds ledger.notes session) (ap (pin_before session) (reverse-append ledger.entries entries) ∙ open_pins_stay session (reverse entries) (reverse ledger.entries) leave)

begun_now : (b : Bool) (h : History) (o : Option History) → b ≡ true → (if b then Some h else o) ≡ Some h
begun_now true h o e = refl
begun_now false h o e = absurd (both_not false refl e)

-- nothing stands under a pin that comes now
pub pin_untried : (session : ℕ) (es fs : List Entry) (ms ns : List Note) (kinds : NoteKind → Bool) → list_all (λ note. nat_le note.after (length es)) ns ≡ true
    → fs ≡ es ++ Pin session ∷ [] → ms ≡ ns → has_under kinds ms session (pin_before session (reverse fs)) ≡ false
pin_untried session es fs ms ns kinds within ef em =
    ap (λ (h : History). has_under kinds ms session (pin_before session h)) (ap reverse ef ∙ one_more es (Pin session))
    ∙ ap (has_under kinds ms session) (begun_now (nat_eq session session) (reverse es) (pin_before session (reverse es)) (eq-eqb session session refl))
    ∙ ap (λ (notes : List Note). has_note kinds notes (record { session = session; before = reverse es })) em
    ∙ unnoted kinds (record { session = session; before = reverse es }) (length es) ns (sym (length-reverse es)) within

-- ---- unpins

split_at : (f : OpenPin → ℕ) (x : OpenPin) (b : Bool) (xs ys zs : List OpenPin) → sum_by f xs ≡ sum_by f ys + sum_by f zs →
    sum_by f (x ∷ xs) ≡ sum_by f (if not b then x ∷ ys else ys) + sum_by f (if b then x ∷ zs else zs)
split_at f x true xs ys zs e =
    let one : sum_by f (x ∷ xs) ≡ f x + sum_by f xs = sum_by-cons f x xs in
    let two : sum_by f (x ∷ zs) ≡ f x + sum_by f zs = sum_by-cons f x zs in
    omega (arith, one, two, e)
split_at f x false xs ys zs e =
    let one : sum_by f (x ∷ xs) ≡ f x + sum_by f xs = sum_by-cons f x xs in
    let two : sum_by f (x ∷ ys) ≡ f x + sum_by f ys = sum_by-cons f x ys in
    omega (arith, one, two, e)

-- a sum is that of the pins that fail a test and that of those that pass it
pub split : (f : OpenPin → ℕ) (t : OpenPin → Bool) (pins : List OpenPin) → sum_by f pins ≡ sum_by f (filter (λ pin. not (t pin)) pins) + sum_by f (filter t pins)
split f t [] = refl
split f t (pin ∷ pins) = split_at f pin (t pin) pins (filter (λ other. not (t other)) pins) (filter t pins) (split f t pins)

pub unpins_give_back : UnpinsGiveBack
unpins_give_back ledger session before ok begun =
    let h : History = reverse ledger.entries in
    let f : OpenPin → ℕ = reserved_by ledger.notes in
    let own : OpenPin = record { session = session; before = before } in
    let rest : ℕ = sum_by f (filter (λ pin. not (nat_eq pin.session session)) (open_pins h)) in
    split f (λ pin. nat_eq pin.session session) (open_pins h)
    ∙ ap (λ (pins : List OpenPin). rest + sum_by f pins) (open_pins_are_these ledger.base session h ok ∙ ap (pins_of session) begun)
    ∙ ap (λ (n : ℕ). rest + n) (sum_by_push f [] own ∙ zero-add (f own))
    ∙ ap (λ (later : History). sum_by f (open_pins later) + f own) (sym (one_more ledger.entries (Unpin session)))
