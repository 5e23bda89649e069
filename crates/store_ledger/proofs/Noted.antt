-- What a ledger keeps over a new note.
use Rattle.std.proofs.Common.{◌≡◌, ◌∙◌, ℕ, suc, ◌+◌, ◌≤◌, Bool, true, false, not, ◌&&◌, ◌||◌, if◌then◌else◌, nat_eq, nat_lt, List, [], ◌∷◌, ◌++◌, length, reverse, Option, Some, IfSome, IsTrue, refl, ap, sym, subst, arith, length-append}
use Rattle.std.specs.List.{filter, sum_by}
use Rattle.std.proofs.lemmas.Bool.{eq-eqb}
use Rattle.std.proofs.lemmas.Bool.Decides.{nat_tests}
use Rattle.std.proofs.lemmas.List.{reverse-append, length-reverse}
use Rattle.std.proofs.lemmas.List.Folds.{list_any-append}
use Rattle.store_versions.specs.Change.{Change}
use Rattle.store_versions.specs.Core.{Core}
use Rattle.event_core.specs.Allowed.{is_pinned}
use Rattle.store_versions.specs.History.{History, OpenPin, open_pins, pin_before, up_to}
use Rattle.store_versions.proofs.Tests.{both_not, eq_sym}
use Rattle.store_versions.specs.Pins.{PlaceTells}
use Rattle.store_versions.proofs.Pins.{all_entries_are_the_history, places_tell_pins}
use Rattle.store_ledger.specs.declared.note.Note.{Note}
use Rattle.store_ledger.specs.declared.note.NoteKind.{NoteKind}
use Rattle.store_ledger.specs.declared.note.NoteKind.TheVariants.{Fault}
use Rattle.store_ledger.specs.Ledger.{LedgerState, AreNoted, IsNote, has_note, history, attempt, is_fault, is_kind, is_tried, is_under, note_now, reserved_by, with_notes}
use Rattle.store_ledger.specs.Inner.Kept.{IsKept, note_to_come, notes_to_come}
use Rattle.store_ledger.proofs.Keeping.{begun_of, own_sum, pinned_of}
use Rattle.store_ledger.proofs.Notes.{any_reverse, within_all}
use Rattle.store_ledger.proofs.Tried.{same_sum}
use Rattle.store_ledger.proofs.Waiting.{few_fault, few_tried}

-- the note of a session that comes now
abbrev pub next_note : NoteKind → ℕ → History → Note
next_note kind session h = record { session = session; kind = kind; after = length h }

no_note : (a b c d : Bool) → (b ≡ false) → (a || ((b && (c && d)) || false)) ≡ a
no_note true b c d e = refl
no_note false true c d e = absurd (both_not true e refl)
no_note false false c d e = refl

no_kind : (a b d : Bool) → (a || ((b && (false && d)) || false)) ≡ a
no_kind true b d = refl
no_kind false true d = refl
no_kind false false d = refl

one_note : (a b d : Bool) → b ≡ true → d ≡ true → (a || ((b && (true && d)) || false)) ≡ true
one_note true b d e f = refl
one_note false true true e f = refl
one_note false false d e f = absurd (both_not false refl e)
one_note false true false e f = absurd (both_not false refl f)

module _ (h : History) (notes : List Note) (session : ℕ) (before : History) (begun : pin_before session h ≡ Some before) where
  own : OpenPin
  own = record { session = session; before = before }

  -- other sessions' pins have no other notes than before
  left : (kind : NoteKind) (of : NoteKind → Bool) (pin : OpenPin) → nat_eq pin.session session ≡ false → has_note of notes pin ≡ has_note of (notes ++ next_note kind session h ∷ []) pin
  left kind of pin other = sym (list_any-append (is_under of pin) notes (next_note kind session h ∷ [])
      ∙ no_note (has_note of notes pin) (nat_eq session pin.session) (of kind) (nat_lt (length pin.before) (length h)) (eq_sym session pin.session ∙ other))

  earlier : nat_lt (length before) (length h) ≡ true
  earlier = let place : PlaceTells h before = places_tell_pins session h before begun in grind (arith, nat_tests, place.within)

  faulty : has_note is_fault (notes ++ next_note Fault session h ∷ []) (record { session = session; before = before }) ≡ true
  faulty = list_any-append (is_under is_fault (record { session = session; before = before })) notes (next_note Fault session h ∷ [])
      ∙ one_note (has_note is_fault notes (record { session = session; before = before })) (nat_eq session session) (nat_lt (length before) (length h)) (eq-eqb session session refl) earlier

  tried : (change : Change) → has_note is_tried (notes ++ next_note (attempt change) session h ∷ []) (record { session = session; before = before }) ≡ true
  tried change = list_any-append (is_under is_tried (record { session = session; before = before })) notes (next_note (attempt change) session h ∷ [])
      ∙ one_note (has_note is_tried notes (record { session = session; before = before })) (nat_eq session session) (nat_lt (length before) (length h)) (eq-eqb session session refl) earlier

  not_tried : has_note is_tried (notes ++ next_note Fault session h ∷ []) (record { session = session; before = before }) ≡ has_note is_tried notes (record { session = session; before = before })
  not_tried = list_any-append (is_under is_tried (record { session = session; before = before })) notes (next_note Fault session h ∷ [])
      ∙ no_kind (has_note is_tried notes (record { session = session; before = before })) (nat_eq session session) (nat_lt (length before) (length h))

  not_faulty : (change : Change) → has_note is_fault (notes ++ next_note (attempt change) session h ∷ []) (record { session = session; before = before }) ≡ has_note is_fault notes (record { session = session; before = before })
  not_faulty change = list_any-append (is_under is_fault (record { session = session; before = before })) notes (next_note (attempt change) session h ∷ [])
      ∙ no_kind (has_note is_fault notes (record { session = session; before = before })) (nat_eq session session) (nat_lt (length before) (length h))

  noted_next : (kind : NoteKind) → AreNoted h (reverse notes) → has_note (is_kind kind) notes (record { session = session; before = before }) ≡ false →
      AreNoted h (reverse (notes ++ next_note kind session h ∷ []))
  noted_next kind k none =
      let now : up_to (length h) h ≡ h = all_entries_are_the_history h in
      let unnoted : has_note (is_kind kind) (reverse notes) (record { session = session; before = before }) ≡ false = any_reverse (is_under (is_kind kind) (record { session = session; before = before })) notes ∙ none in
      let is_next : IsNote h (reverse notes) (next_note kind session h) = record {
        within = omega arith;
        rising = within_all h (reverse notes) k;
        pinned = ap (is_pinned session) now ∙ pinned_of session h before begun;
        once = subst (λ (o : Option History). IfSome o (λ b. has_note (is_kind kind) (reverse notes) (record { session = session; before = b }) ≡ false)) (sym (ap (pin_before session) now ∙ begun)) unnoted;
      } in
      subst (AreNoted h) (sym (reverse-append notes (next_note kind session h ∷ []))) (k, is_next)

module _ (base : Core) (limit : ℕ) (h : History) (notes : List Note) (core : Core) (r er nr p session : ℕ) (before : History)
    (k : IsKept base limit h notes core r er nr p) (begun : pin_before session h ≡ Some before) where
  -- a sum over the open pins, told before and after a note of a session
  own_changes : (f g : OpenPin → ℕ) → ((pin : OpenPin) → nat_eq pin.session session ≡ false → f pin ≡ g pin) →
      sum_by f (open_pins h) + g (record { session = session; before = before }) ≡ sum_by g (open_pins h) + f (record { session = session; before = before })
  own_changes f g same =
      let fs : sum_by f (open_pins h) ≡ sum_by f (filter (λ pin. not (nat_eq pin.session session)) (open_pins h)) + f (record { session = session; before = before }) =
      own_sum f base session h before k.allowed begun in
      let gs : sum_by g (open_pins h) ≡ sum_by g (filter (λ pin. not (nat_eq pin.session session)) (open_pins h)) + g (record { session = session; before = before }) =
      own_sum g base session h before k.allowed begun in
      let others : sum_by f (filter (λ pin. not (nat_eq pin.session session)) (open_pins h)) ≡ sum_by g (filter (λ pin. not (nat_eq pin.session session)) (open_pins h)) =
      same_sum f g (λ pin. nat_eq pin.session session) same (open_pins h) in
      omega (arith, fs, gs, others)

  longer : (note : Note) → length (notes ++ note ∷ []) ≡ suc (length notes)
  longer note = let e : length (notes ++ note ∷ []) ≡ length notes + 1 = length-append notes (note ∷ []) in omega (arith, e)

  reserves_left : (kind : NoteKind) (pin : OpenPin) → nat_eq pin.session session ≡ false → reserved_by notes pin ≡ reserved_by (notes ++ next_note kind session h ∷ []) pin
  reserves_left kind pin other = ap (λ (b : Bool). if b then 1 else 3) (left h notes session before begun kind is_tried pin other)

  notes_left : (kind : NoteKind) (pin : OpenPin) → nat_eq pin.session session ≡ false → notes_to_come notes pin ≡ notes_to_come (notes ++ next_note kind session h ∷ []) pin
  notes_left kind pin other =
      ap (λ (b : Bool). (if b then 0 else 1) + note_to_come is_tried notes pin) (left h notes session before begun kind is_fault pin other)
      ∙ ap (λ (b : Bool). note_to_come is_fault (notes ++ next_note kind session h ∷ []) pin + (if b then 0 else 1)) (left h notes session before begun kind is_tried pin other)

  pub kept_fault : has_note is_fault notes (record { session = session; before = before }) ≡ false → IsKept base limit h (notes ++ next_note Fault session h ∷ []) core r er nr p
  kept_fault none =
      let own : OpenPin = record { session = session; before = before } in
      let more : List Note = notes ++ next_note Fault session h ∷ [] in
      let rs : sum_by (reserved_by notes) (open_pins h) + reserved_by more own ≡ sum_by (reserved_by more) (open_pins h) + reserved_by notes own =
      own_changes (reserved_by notes) (reserved_by more) (reserves_left Fault) in
      let ns : sum_by (notes_to_come notes) (open_pins h) + notes_to_come more own ≡ sum_by (notes_to_come more) (open_pins h) + notes_to_come notes own =
      own_changes (notes_to_come notes) (notes_to_come more) (notes_left Fault) in
      let r_own : reserved_by more own ≡ reserved_by notes own = ap (λ (b : Bool). if b then 1 else 3) (not_tried h notes session before begun) in
      let f_old : note_to_come is_fault notes own ≡ 1 = ap (λ (b : Bool). if b then 0 else 1) none in
      let f_new : note_to_come is_fault more own ≡ 0 = ap (λ (b : Bool). if b then 0 else 1) (faulty h notes session before begun) in
      let t_own : note_to_come is_tried more own ≡ note_to_come is_tried notes own = ap (λ (b : Bool). if b then 0 else 1) (not_tried h notes session before begun) in
      let n_old : notes_to_come notes own ≡ note_to_come is_fault notes own + note_to_come is_tried notes own = refl in
      let n_new : notes_to_come more own ≡ note_to_come is_fault more own + note_to_come is_tried more own = refl in
      let res : r ≡ sum_by (reserved_by more) (open_pins h) = omega (arith, k.reserved, rs, r_own) in
      let fn : length more + sum_by (notes_to_come more) (open_pins h) ≤ nr = omega (arith, k.for_notes, ns, f_old, f_new, t_own, n_old, n_new, longer (next_note Fault session h)) in
      record {
        begins = k.begins;
        allowed = k.allowed;
        made = k.made;
        noted = noted_next h notes session before begun Fault k.noted none;
        reserved = res;
        within = k.within;
        for_entries = k.for_entries;
        for_notes = fn;
        marks = k.marks;
        few = few_fault base h notes session (length h) k.few;
      }

  -- what the first try gives back is reserved
  pub tried_given : has_note is_tried notes (record { session = session; before = before }) ≡ false → 2 ≤ r
  tried_given none =
      let sum : sum_by (reserved_by notes) (open_pins h) ≡ sum_by (reserved_by notes) (filter (λ pin. not (nat_eq pin.session session)) (open_pins h)) + reserved_by notes (record { session = session; before = before }) =
      own_sum (reserved_by notes) base session h before k.allowed begun in
      let three : reserved_by notes (record { session = session; before = before }) ≡ 3 = ap (λ (b : Bool). if b then 1 else 3) none in
      omega (arith, k.reserved, sum, three)

  pub kept_tried : (change : Change) (rest : ℕ) → has_note is_tried notes (record { session = session; before = before }) ≡ false → rest + 2 ≡ r →
      IsKept base limit h (notes ++ next_note (attempt change) session h ∷ []) core rest er nr p
  kept_tried change rest none gives =
      let own : OpenPin = record { session = session; before = before } in
      let more : List Note = notes ++ next_note (attempt change) session h ∷ [] in
      let rs : sum_by (reserved_by notes) (open_pins h) + reserved_by more own ≡ sum_by (reserved_by more) (open_pins h) + reserved_by notes own =
      own_changes (reserved_by notes) (reserved_by more) (reserves_left (attempt change)) in
      let ns : sum_by (notes_to_come notes) (open_pins h) + notes_to_come more own ≡ sum_by (notes_to_come more) (open_pins h) + notes_to_come notes own =
      own_changes (notes_to_come notes) (notes_to_come more) (notes_left (attempt change)) in
      let r_old : reserved_by notes own ≡ 3 = ap (λ (b : Bool). if b then 1 else 3) none in
      let r_new : reserved_by more own ≡ 1 = ap (λ (b : Bool). if b then 1 else 3) (tried h notes session before begun change) in
      let t_old : note_to_come is_tried notes own ≡ 1 = ap (λ (b : Bool). if b then 0 else 1) none in
      let t_new : note_to_come is_tried more own ≡ 0 = ap (λ (b : Bool). if b then 0 else 1) (tried h notes session before begun change) in
      let f_own : note_to_come is_fault more own ≡ note_to_come is_fault notes own = ap (λ (b : Bool). if b then 0 else 1) (not_faulty h notes session before begun change) in
      let n_old : notes_to_come notes own ≡ note_to_come is_fault notes own + note_to_come is_tried notes own = refl in
      let n_new : notes_to_come more own ≡ note_to_come is_fault more own + note_to_come is_tried more own = refl in
      let res : rest ≡ sum_by (reserved_by more) (open_pins h) = omega (arith, k.reserved, rs, r_old, r_new, gives) in
      let all_within : length h + rest ≤ limit = omega (arith, k.within, gives) in
      let fn : length more + sum_by (notes_to_come more) (open_pins h) ≤ nr = omega (arith, k.for_notes, ns, t_old, t_new, f_own, n_old, n_new, longer (next_note (attempt change) session h)) in
      record {
        begins = k.begins;
        allowed = k.allowed;
        made = k.made;
        noted = noted_next h notes session before begun (attempt change) k.noted none;
        reserved = res;
        within = all_within;
        for_entries = k.for_entries;
        for_notes = fn;
        marks = k.marks;
        few = few_tried base h notes session (length h) change k.few;
      }

  -- there is room for a note of a kind that has not come yet
  pub note_fits : 1 ≤ notes_to_come notes (record { session = session; before = before }) → suc (length notes) ≤ nr
  note_fits one =
      let sum : sum_by (notes_to_come notes) (open_pins h) ≡ sum_by (notes_to_come notes) (filter (λ pin. not (nat_eq pin.session session)) (open_pins h)) + notes_to_come notes (record { session = session; before = before }) =
      own_sum (notes_to_come notes) base session h before k.allowed begun in
      omega (arith, k.for_notes, sum, one)

-- ---- an open ledger

abbrev pub Unnoted : (NoteKind → Bool) → LedgerState → ℕ → Option History → Type 0
Unnoted kinds ledger session o = IfSome o (λ b. has_note kinds ledger.notes (record { session = session; before = b }) ≡ false)

one_fault : (a : Bool) (n : ℕ) → a ≡ false → 1 ≤ (if a then 0 else 1) + n
one_fault true n e = absurd (both_not true e refl)
one_fault false n e = omega arith

one_try : (a : Bool) (n : ℕ) → a ≡ false → 1 ≤ n + (if a then 0 else 1)
one_try true n e = absurd (both_not true e refl)
one_try false n e = omega arith

module _ (ledger now : LedgerState) (session : ℕ) (core : Core) (r er nr p : ℕ) (same : ledger ≡ now)
    (k : IsKept ledger.base ledger.limit (reverse ledger.entries) ledger.notes core r er nr p) (pinned : IsTrue (is_pinned session (history now))) where
  begun : (before : History) × (pin_before session (reverse ledger.entries) ≡ Some before)
  begun = begun_of session (reverse ledger.entries) (subst (λ (l : LedgerState). is_pinned session (history l) ≡ true) (sym same) pinned)

  none : (kinds : NoteKind → Bool) → Unnoted kinds now session (pin_before session (history now)) → has_note kinds ledger.notes (record { session = session; before = begun.0 }) ≡ false
  none kinds first = subst (Unnoted kinds ledger session) begun.1 (subst (λ (l : LedgerState). Unnoted kinds l session (pin_before session (history l))) (sym same) first)

  pub fault_fits : Unnoted is_fault now session (pin_before session (history now)) → suc (length ledger.notes) ≤ nr
  fault_fits first = note_fits ledger.base ledger.limit (reverse ledger.entries) ledger.notes core r er nr p session begun.0 k begun.1
      (one_fault (has_note is_fault ledger.notes (record { session = session; before = begun.0 })) (note_to_come is_tried ledger.notes (record { session = session; before = begun.0 })) (none is_fault first))

  pub tried_fits : Unnoted is_tried now session (pin_before session (history now)) → suc (length ledger.notes) ≤ nr
  tried_fits first = note_fits ledger.base ledger.limit (reverse ledger.entries) ledger.notes core r er nr p session begun.0 k begun.1
      (one_try (has_note is_tried ledger.notes (record { session = session; before = begun.0 })) (note_to_come is_fault ledger.notes (record { session = session; before = begun.0 })) (none is_tried first))

  is_next : (kind : NoteKind) (after : ℕ) (ns : List Note) → after ≡ length ledger.entries → ns ≡ ledger.notes ++ record { session = session; kind = kind; after = after } ∷ [] →
      ns ≡ ledger.notes ++ next_note kind session (reverse ledger.entries) ∷ []
  is_next kind after ns e f = f ∙ ap (λ (n : ℕ). ledger.notes ++ record { session = session; kind = kind; after = n } ∷ []) (e ∙ sym (length-reverse ledger.entries))

  pub fault_keeps : (after nr2 : ℕ) (ns : List Note) → Unnoted is_fault now session (pin_before session (history now)) → after ≡ length ledger.entries →
      ns ≡ ledger.notes ++ record { session = session; kind = Fault; after = after } ∷ [] → nr2 ≡ nr → IsKept ledger.base ledger.limit (reverse ledger.entries) ns core r er nr2 p
  fault_keeps after nr2 ns first e f room =
      subst (λ (n : ℕ). IsKept ledger.base ledger.limit (reverse ledger.entries) ns core r er n p) (sym room)
      (subst (λ (xs : List Note). IsKept ledger.base ledger.limit (reverse ledger.entries) xs core r er nr p) (sym (is_next Fault after ns e f))
      (kept_fault ledger.base ledger.limit (reverse ledger.entries) ledger.notes core r er nr p session begun.0 k begun.1 (none is_fault first)))

  pub tried_gives : Unnoted is_tried now session (pin_before session (history now)) → 2 ≤ r
  tried_gives first = tried_given ledger.base ledger.limit (reverse ledger.entries) ledger.notes core r er nr p session begun.0 k begun.1 (none is_tried first)

  pub tried_keeps : (change : Change) (after nr2 rest : ℕ) (ns : List Note) → Unnoted is_tried now session (pin_before session (history now)) → after ≡ length ledger.entries →
      ns ≡ ledger.notes ++ record { session = session; kind = attempt change; after = after } ∷ [] → nr2 ≡ nr → rest + 2 ≡ r → IsKept ledger.base ledger.limit (reverse ledger.entries) ns core rest er nr2 p
  tried_keeps change after nr2 rest ns first e f room gives =
      subst (λ (n : ℕ). IsKept ledger.base ledger.limit (reverse ledger.entries) ns core rest er n p) (sym room)
      (subst (λ (xs : List Note). IsKept ledger.base ledger.limit (reverse ledger.entries) xs core rest er nr p) (sym (is_next (attempt change) after ns e f))
      (kept_tried ledger.base ledger.limit (reverse ledger.entries) ledger.notes core r er nr p session begun.0 k begun.1 change rest (none is_tried first) gives))

-- the ledger with the note, as the note's call leaves it
pub tried_is : (ledger now : LedgerState) (session after : ℕ) (was change : Change) (ns : List Note) → ledger ≡ now → after ≡ length ledger.entries → was ≡ change
    → ns ≡ ledger.notes ++ record { session = session; kind = attempt was; after = after } ∷ [] → record ledger { notes = ns } ≡ with_notes (note_now (attempt change) now session ∷ []) now
tried_is ledger now session after was change ns same is_after is_change e =
    ap (λ (xs : List Note). record ledger { notes = xs }) e
    ∙ ap (λ (n : ℕ). record ledger { notes = ledger.notes ++ record { session = session; kind = attempt was; after = n } ∷ [] }) is_after
    ∙ ap (λ (c : Change). with_notes (note_now (attempt c) ledger session ∷ []) ledger) is_change
    ∙ ap (λ (l : LedgerState). with_notes (note_now (attempt change) l session ∷ []) l) same
