-- What callers are told of a ledger.
use Rattle.std.proofs.Common.{◌≡◌, ◌∙◌, ℕ, ◌+◌, ◌≤◌, Bool, true, false, ◌&&◌, ◌||◌, if◌then◌else◌, nat_eq, nat_le, nat_lt, List, [], ◌∷◌, ◌++◌, length, reverse, Option, None, Some, IfSome, IsTrue, refl, ap, sym, subst, arith}
use Rattle.std.specs.List.{filter, list_any, list_all}
use Rattle.std.proofs.lemmas.Bool.Decides.{nat_tests}
use Rattle.std.proofs.lemmas.List.{reverse-append, length-reverse}
use Rattle.std.proofs.lemmas.List.Folds.{list_all-append}
use Rattle.store_versions.specs.Core.{Core}
use Rattle.store_versions.specs.CorePin.{CorePin}
use Rattle.event_core.specs.Allowed.{is_pinned}
use Rattle.store_versions.specs.History.{History, OpenPin, open_pins, pin_before}
use Rattle.store_versions.specs.Replay.{pin_at}
use Rattle.store_versions.proofs.Tests.{any_map}
use Rattle.store_versions.specs.Pins.{pins_of}
use Rattle.store_versions.proofs.Pins.{open_pins_are_these}
use Rattle.store_ledger.specs.declared.note.Note.{Note}
use Rattle.store_versions.specs.Change.{Change}
use Rattle.store_ledger.specs.Ledger.{LedgerState, AreFew, IsLedger, MayReap, attempt, note_now, has_note, has_room, has_under, history, is_noted, reserved, with_notes, is_tried, is_fault}
use Rattle.store_ledger.specs.Laws.{NotesAreWithin}
use Rattle.store_ledger.specs.Inner.Kept.{IsKept}
use Rattle.store_ledger.proofs.Keeping.{begun_of}
use Rattle.store_ledger.proofs.Notes.{within_all}
use Rattle.store_ledger.proofs.Tried.{tried_gives_two_back}
use Rattle.store_ledger.proofs.Waiting.{may_tried}

le_test : (n m : ℕ) → n ≤ m → nat_le n m ≡ true
le_test n m e = grind (arith, nat_tests)

le_from : (n m : ℕ) → nat_le n m ≡ true → n ≤ m
le_from n m e = grind (arith, nat_tests)

pub is_ledger : (ledger now : LedgerState) (core : Core) (r er nr p : ℕ) → ledger ≡ now → IsKept ledger.base ledger.limit (reverse ledger.entries) ledger.notes core r er nr p → IsLedger now
is_ledger ledger now core r er nr p same k =
    let all : r ≡ reserved ledger = k.reserved in
    let within : length ledger.entries + reserved ledger + 0 ≤ ledger.limit = omega (arith, k.within, all, length-reverse ledger.entries) in
    subst IsLedger same (record { base = k.begins; allowed = k.allowed; notes = k.noted; room = le_test (length ledger.entries + reserved ledger + 0) ledger.limit within; few = k.few })

swapped : (a b : Bool) → (a && (b && true)) ≡ (b && a)
swapped true true = refl
swapped true false = refl
swapped false true = refl
swapped false false = refl

all_reverse : (p : Note → Bool) (notes : List Note) → list_all p (reverse notes) ≡ list_all p notes
all_reverse p [] = refl
all_reverse p (note ∷ notes) =
    ap (list_all p) (reverse-append (note ∷ []) notes)
    ∙ list_all-append p (reverse notes) (note ∷ [])
    ∙ swapped (list_all p (reverse notes)) (p note)
    ∙ ap (λ (b : Bool). p note && b) (all_reverse p notes)

pub notes_are_within : NotesAreWithin
notes_are_within ledger is =
    ap (λ (n : ℕ). list_all (λ note. nat_le note.after n) ledger.notes) (sym (length-reverse ledger.entries))
    ∙ sym (all_reverse (λ note. nat_le note.after (length (reverse ledger.entries))) ledger.notes)
    ∙ within_all (reverse ledger.entries) (reverse ledger.notes) is.notes

-- the two entries that are given back have room
pub tried_room : (ledger : LedgerState) (session : ℕ) (change : Change) → IsLedger ledger → IsTrue (is_pinned session (history ledger)) →
    IfSome (pin_before session (history ledger)) (λ before. has_note is_tried ledger.notes (record { session = session; before = before }) ≡ false) →
    has_room (with_notes (note_now (attempt change) ledger session ∷ []) ledger) 2 ≡ true
tried_room ledger session change is pinned first =
    let b : (before : History) × (pin_before session (history ledger) ≡ Some before) = begun_of session (history ledger) pinned in
    let none : has_note is_tried ledger.notes (record { session = session; before = b.0 }) ≡ false =
    subst (λ (o : Option History). IfSome o (λ before. has_note is_tried ledger.notes (record { session = session; before = before }) ≡ false)) b.1 first in
    let back : reserved ledger ≡ reserved (with_notes (note_now (attempt change) ledger session ∷ []) ledger) + 2 = tried_gives_two_back ledger session change b.0 is.allowed b.1 none in
    let within : length ledger.entries + reserved ledger + 0 ≤ ledger.limit = le_from (length ledger.entries + reserved ledger + 0) ledger.limit is.room in
    let fits : length ledger.entries + reserved (with_notes (note_now (attempt change) ledger session ∷ []) ledger) + 2 ≤ ledger.limit = omega (arith, within, back) in
    le_test (length ledger.entries + reserved (with_notes (note_now (attempt change) ledger session ∷ []) ledger) + 2) ledger.limit fits

-- ---- faults under a pin

passed_at : (q : OpenPin → Bool) (x : OpenPin) (b rest : Bool) (ys : List OpenPin) → rest ≡ list_any q ys → ((b && q x) || rest) ≡ list_any q (if b then x ∷ ys else ys)
passed_at q x true rest ys e = ap (λ (r : Bool). q x || r) e
passed_at q x false rest ys e = e

any_passed : (t q : OpenPin → Bool) (xs : List OpenPin) → list_any (λ x. t x && q x) xs ≡ list_any q (filter t xs)
any_passed t q [] = refl
any_passed t q (x ∷ xs) = passed_at q x (t x) (list_any (λ y. t y && q y) xs) (filter t xs) (any_passed t q xs)

or_nothing : (b : Bool) → (b || false) ≡ b
or_nothing true = refl
or_nothing false = refl

under_pin : (notes : List Note) (session : ℕ) (o : Option History) → list_any (has_note is_fault notes) (pins_of session o) ≡ has_under is_fault notes session o
under_pin notes session None = refl
under_pin notes session (Some before) = or_nothing (has_note is_fault notes (record { session = session; before = before }))

abbrev pub faulty_at : List Note → ℕ → ℕ × ℕ → Bool
faulty_at notes session at = nat_eq at.0 session && list_any (λ note. nat_eq note.session at.0 && (is_fault note.kind && nat_lt at.1 note.after)) notes

abbrev faulty_pin : List Note → ℕ → CorePin → Bool
faulty_pin notes session pin = nat_eq pin.session session && list_any (λ note. nat_eq note.session pin.session && (is_fault note.kind && nat_lt pin.place note.after)) notes

-- the core's pins and the notes tell whether a fault was noted under a session's pin
pub faulted_told : (ledger now : LedgerState) (session : ℕ) (core : Core) (r er nr p : ℕ) → ledger ≡ now → IsKept ledger.base ledger.limit (reverse ledger.entries) ledger.notes core r er nr p →
    list_any (λ pin. nat_eq pin.session session && list_any (λ note. nat_eq note.session pin.session && (is_fault note.kind && nat_lt pin.place note.after)) ledger.notes) core.pins
    ≡ is_noted is_fault now session
faulted_told ledger now session core r er nr p same k =
    ap (λ (c : Core). list_any (faulty_pin ledger.notes session) c.pins) k.made
    ∙ any_map (pin_at ledger.base) (faulty_pin ledger.notes session) (open_pins (reverse ledger.entries))
    ∙ any_passed (λ pin. nat_eq pin.session session) (has_note is_fault ledger.notes) (open_pins (reverse ledger.entries))
    ∙ ap (list_any (has_note is_fault ledger.notes)) (open_pins_are_these ledger.base session (reverse ledger.entries) k.allowed)
    ∙ under_pin ledger.notes session (pin_before session (reverse ledger.entries))
    ∙ ap (λ (l : LedgerState). is_noted is_fault l session) same

-- the same, as the note's call leaves the ledger
pub two_fit : (ledger now : LedgerState) (session : ℕ) (change : Change) (after : ℕ) (ns : List Note) → ledger ≡ now → IsLedger now → IsTrue (is_pinned session (history now)) →
    IfSome (pin_before session (history now)) (λ before. has_note is_tried now.notes (record { session = session; before = before }) ≡ false) →
    after ≡ length ledger.entries → ns ≡ ledger.notes ++ record { session = session; kind = attempt change; after = after } ∷ [] → has_room (record ledger { notes = ns }) 2 ≡ true
two_fit ledger now session change after ns same is pinned first e f =
    let room : has_room (with_notes (note_now (attempt change) ledger session ∷ []) ledger) 2 ≡ true =
    subst (λ (l : LedgerState). has_room (with_notes (note_now (attempt change) l session ∷ []) l) 2 ≡ true) (sym same) (tried_room now session change is pinned first) in
    let notes : ns ≡ ledger.notes ++ note_now (attempt change) ledger session ∷ [] = f ∙ ap (λ (n : ℕ). ledger.notes ++ record { session = session; kind = attempt change; after = n } ∷ []) e in
    subst (λ (xs : List Note). has_room (record ledger { notes = xs }) 2 ≡ true) (sym notes) room

-- a reap may come behind the note, as the note's call leaves the ledger
pub reap_may : (ledger now : LedgerState) (session : ℕ) (change : Change) (after : ℕ) (ns : List Note) → ledger ≡ now → IsLedger now →
    ns ≡ ledger.notes ++ record { session = session; kind = attempt change; after = after } ∷ [] → MayReap (record ledger { notes = ns })
reap_may ledger now session change after ns same is e =
    subst (λ (xs : List Note). MayReap (record ledger { notes = xs })) (sym e)
    (may_tried ledger.base (history ledger) ledger.notes session after change (subst (λ (l : LedgerState). AreFew l.base (history l) l.notes) (sym same) is.few))
