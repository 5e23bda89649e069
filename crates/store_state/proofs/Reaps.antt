-- A history has at most three reaps a pin.
use Rattle.std.proofs.Common.{◌≡◌, ◌∙◌, ℕ, zero, suc, ◌+◌, ◌-◌, ◌<◌, ◌≤◌, Bool, true, false, not, ◌&&◌, ◌||◌, nat_eq, nat_lt, if◌then◌else◌, List, [], ◌∷◌, drop, length, reverse, Option, None, Some, IfSome, IsTrue, refl, ap, sym, subst, arith, length-append}
use Rattle.std.specs.Prelude.{nat_le}
use Rattle.std.specs.List.{filter, list_all, sum_by}
use Rattle.std.proofs.lemmas.Bool.{and_parts, eq-eqb, not-true}
use Rattle.std.proofs.lemmas.Bool.Decides.{nat_tests}
use Rattle.std.proofs.lemmas.List.{drop_all, length-drop, reverse-append}
use Rattle.std.proofs.lemmas.List.Elements.{filter-append}
use Rattle.std.proofs.lemmas.List.Sums.{sum_by-cons, sum_by_push}
use Rattle.event_core.specs.declared.entry.Entry.{Entry}
use Rattle.event_core.specs.declared.entry.Entry.TheVariants.{Pin, Unpin, Commit, Reap}
use Rattle.event_core.specs.declared.state.Core.{Core}
use Rattle.event_core.specs.Allowed.{is_allowed, is_pinned}
use Rattle.event_core.specs.Bases.{commits}
use Rattle.event_core.specs.History.{History, OpenPin, open_pins, pin_before, up_to}
use Rattle.event_core.specs.Legal.{IsOrdered, has_committed}
use Rattle.event_core.proofs.Runs.{allowed_before, allowed_now}
use Rattle.event_core.proofs.Tests.{eq_sym}
use Rattle.store_versions.specs.Pins.{PlaceTells, pins_of}
use Rattle.store_versions.proofs.Pins.{all_entries_are_the_history, open_pins_are_these, places_tell_pins}
use Rattle.store_ledger.specs.declared.note.Note.{Note}
use Rattle.store_ledger.specs.declared.note.NoteKind.{NoteKind}
use Rattle.store_ledger.specs.declared.note.NoteKind.TheVariants.{Fault, Tried}
use Rattle.store_ledger.specs.Ledger.{AreNoted, IsNote, has_note, history, is_kind, is_tried, is_waiting, reaps, unpins}
use Rattle.store_ledger.proofs.Keeping.{begun_of, own_sum}
use Rattle.store_ledger.proofs.Notes.{within_all}
use Rattle.store_ledger.proofs.Pins.{split}
use Rattle.store_ledger.proofs.Tried.{same_sum}
use Rattle.store_state.specs.Laws.{ReapsAreFew, pins}

abbrev one_if : Bool → ℕ
one_if b = if b then 1 else 0

at_most_one : (b : Bool) → one_if b ≤ 1
at_most_one true = omega arith
at_most_one false = omega arith

abbrev is_by : ℕ → OpenPin → Bool
is_by s pin = nat_eq pin.session s

-- a sum over open pins goes on over a pin, an unpin, and over what is neither, where each term stays and is one at most
pinned_on : (f : OpenPin → ℕ) (s : ℕ) (h : History) → f (record { session = s; before = h }) ≤ 1 → sum_by f (open_pins (Pin s ∷ h)) ≤ sum_by f (open_pins h) + 1
pinned_on f s h few =
    let more = sum_by_push f (open_pins h) (record { session = s; before = h }) in
    omega (arith, more, few)

unpinned_on : (f : OpenPin → ℕ) (base : Core) (s : ℕ) (h : History) → IsTrue (is_allowed base (Unpin s ∷ h)) → (before : History) × (sum_by f (open_pins (Unpin s ∷ h)) + f (record { session = s; before = before }) ≡ sum_by f (open_pins h))
unpinned_on f base s h ok =
    let begun = begun_of s h (allowed_now base h (Unpin s) ok) in
    (begun.0, sym (own_sum f base s h begun.0 (allowed_before base h (Unpin s) ok) begun.1))

unpinned_or : (b p : Bool) (h : History) (y : Option History) → (b || p) ≡ false → (p ≡ false → y ≡ None) → (if b then Some h else y) ≡ None
unpinned_or true p h y e later = absurd cc
unpinned_or false p h y e later = later e

unpinned_and : (b p : Bool) (y : Option History) → (not b && p) ≡ false → (p ≡ false → y ≡ None) → (if b then None else y) ≡ None
unpinned_and true p y e later = refl
unpinned_and false p y e later = later e

unpinned : (s : ℕ) (h : History) → is_pinned s h ≡ false → pin_before s h ≡ None
unpinned s [] e = refl
unpinned s (Pin t ∷ h) e = unpinned_or (nat_eq t s) (is_pinned s h) h (pin_before s h) e (unpinned s h)
unpinned s (Unpin t ∷ h) e = unpinned_and (nat_eq t s) (is_pinned s h) (pin_before s h) e (unpinned s h)
unpinned s (Commit t change used ∷ h) e = unpinned s h e
unpinned s (Reap ∷ h) e = unpinned s h e

none_open : (base : Core) (s : ℕ) (h : History) → IsTrue (is_allowed base h) → is_pinned s h ≡ false → filter (is_by s) (open_pins h) ≡ []
none_open base s h ok none = open_pins_are_these base s h ok ∙ ap (pins_of s) (unpinned s h none)

-- two sums agree over pins of other sessions
same_over : (f g : OpenPin → ℕ) (s : ℕ) (these : List OpenPin) → filter (is_by s) these ≡ [] → ((pin : OpenPin) → is_by s pin ≡ false → g pin ≡ f pin) → sum_by g these ≡ sum_by f these
same_over f g s these none one =
    let fs : sum_by f these ≡ sum_by f (filter (λ pin. not (is_by s pin)) these) + 0 =
    split f (is_by s) these ∙ ap (λ (own : List OpenPin). sum_by f (filter (λ pin. not (is_by s pin)) these) + sum_by f own) none in
    let gs : sum_by g these ≡ sum_by g (filter (λ pin. not (is_by s pin)) these) + 0 =
    split g (is_by s) these ∙ ap (λ (own : List OpenPin). sum_by g (filter (λ pin. not (is_by s pin)) these) + sum_by g own) none in
    let same : sum_by g (filter (λ pin. not (is_by s pin)) these) ≡ sum_by f (filter (λ pin. not (is_by s pin)) these) = same_sum g f (is_by s) one these in
    omega (arith, fs, gs, same)

-- ---- unpins

unpins_few : (base : Core) (h : History) → IsTrue (is_allowed base h) → unpins h + sum_by (λ pin. 1) (open_pins h) ≤ pins h
unpins_few base [] ok = omega arith
unpins_few base (Pin s ∷ h) ok =
    let rest : unpins h + sum_by (λ pin. 1) (open_pins h) ≤ pins h = unpins_few base h (allowed_before base h (Pin s) ok) in
    let more : sum_by (λ pin. 1) (open_pins (Pin s ∷ h)) ≤ sum_by (λ pin. 1) (open_pins h) + 1 = pinned_on (λ pin. 1) s h (omega arith) in
    omega (arith, rest, more)
unpins_few base (Unpin s ∷ h) ok =
    let rest : unpins h + sum_by (λ pin. 1) (open_pins h) ≤ pins h = unpins_few base h (allowed_before base h (Unpin s) ok) in
    let less : sum_by (λ pin. 1) (open_pins (Unpin s ∷ h)) + 1 ≡ sum_by (λ pin. 1) (open_pins h) = (unpinned_on (λ pin. 1) base s h ok).1 in
    omega (arith, rest, less)
unpins_few base (Commit t change used ∷ h) ok = unpins_few base h (allowed_before base h (Commit t change used) ok)
unpins_few base (Reap ∷ h) ok = unpins_few base h (allowed_before base h Reap ok)

-- ---- commits

-- one for a pin under which no commit came yet
abbrev to_commit : History → OpenPin → ℕ
to_commit h pin = one_if (not (has_committed pin.session h))

still_by_pin : (s t : ℕ) (c : Bool) → nat_eq t s ≡ false → one_if (not (not (nat_eq s t) && c)) ≡ one_if (not c)
still_by_pin s t c e = ap (λ (b : Bool). one_if (not (not b && c))) (eq_sym s t ∙ e)

still_by_commit : (s t : ℕ) (c : Bool) → nat_eq t s ≡ false → one_if (not (nat_eq s t || c)) ≡ one_if (not c)
still_by_commit s t c e = ap (λ (b : Bool). one_if (not (b || c))) (eq_sym s t ∙ e)

commits_few : (base : Core) (h : History) → IsOrdered base h → IsTrue (is_allowed base h) → commits h + sum_by (to_commit h) (open_pins h) ≤ pins h
commits_few base [] ordered ok = omega arith
commits_few base (Pin s ∷ h) ordered ok =
    let f : OpenPin → ℕ = to_commit h in
    let g : OpenPin → ℕ = to_commit (Pin s ∷ h) in
    let before = allowed_before base h (Pin s) ok in
    let none : filter (is_by s) (open_pins h) ≡ [] = none_open base s h before (not-true (is_pinned s h) (allowed_now base h (Pin s) ok)) in
    let rest : commits h + sum_by f (open_pins h) ≤ pins h = commits_few base h ordered.0 before in
    let same : sum_by g (open_pins h) ≡ sum_by f (open_pins h) = same_over f g s (open_pins h) none (λ pin e. still_by_pin s pin.session (has_committed pin.session h) e) in
    let more : sum_by g (open_pins (Pin s ∷ h)) ≤ sum_by g (open_pins h) + 1 = pinned_on g s h (at_most_one (not (has_committed s (Pin s ∷ h)))) in
    omega (arith, rest, same, more)
commits_few base (Unpin s ∷ h) ordered ok =
    let rest : commits h + sum_by (to_commit h) (open_pins h) ≤ pins h = commits_few base h ordered.0 (allowed_before base h (Unpin s) ok) in
    let less = unpinned_on (to_commit h) base s h ok in
    let sum : sum_by (to_commit h) (open_pins (Unpin s ∷ h)) + to_commit h (record { session = s; before = less.0 }) ≡ sum_by (to_commit h) (open_pins h) = less.1 in
    omega (arith, rest, sum)
commits_few base (Commit s change used ∷ h) ordered ok =
    let f : OpenPin → ℕ = to_commit h in
    let g : OpenPin → ℕ = to_commit (Commit s change used ∷ h) in
    let before = allowed_before base h (Commit s change used) ok in
    let pinned : is_pinned s h ≡ true = (and_parts (is_pinned s h) _ (allowed_now base h (Commit s change used) ok)).0 in
    let begun = begun_of s h pinned in
    let own : OpenPin = record { session = s; before = begun.0 } in
    let rest : commits h + sum_by f (open_pins h) ≤ pins h = commits_few base h ordered.0 before in
    let fs : sum_by f (open_pins h) ≡ sum_by f (filter (λ pin. not (is_by s pin)) (open_pins h)) + f own = own_sum f base s h begun.0 before begun.1 in
    let gs : sum_by g (open_pins h) ≡ sum_by g (filter (λ pin. not (is_by s pin)) (open_pins h)) + g own = own_sum g base s h begun.0 before begun.1 in
    let same : sum_by g (filter (λ pin. not (is_by s pin)) (open_pins h)) ≡ sum_by f (filter (λ pin. not (is_by s pin)) (open_pins h)) =
    same_sum g f (is_by s) (λ pin e. still_by_commit s pin.session (has_committed pin.session h) e) (open_pins h) in
    let one : f own ≡ 1 = ap (λ (b : Bool). one_if (not b)) (not-true (has_committed s h) ordered.2.0) in
    let zero_is : g own ≡ 0 = ap (λ (b : Bool). one_if (not (b || has_committed s h))) (eq-eqb s s refl) in
    omega (arith, rest, fs, gs, same, one, zero_is)
commits_few base (Reap ∷ h) ordered ok = commits_few base h ordered.0 (allowed_before base h Reap ok)

-- ---- commits that were tried

abbrev tried_in : List Note → ℕ
tried_in notes = length (filter (λ note. is_tried note.kind) notes)

-- one for a pin under which none was tried yet
abbrev to_try : List Note → OpenPin → ℕ
to_try notes pin = one_if (not (has_note is_tried notes pin))

abbrev AreTriedFew : History → List Note → Type 0
AreTriedFew h notes = tried_in notes + sum_by (to_try notes) (open_pins h) ≤ pins h

tried_step : (base : Core) (entry : Entry) (h : History) (notes : List Note) → IsTrue (is_allowed base (entry ∷ h)) → AreTriedFew h notes → AreTriedFew (entry ∷ h) notes
tried_step base (Pin s) h notes ok few =
    let more : sum_by (to_try notes) (open_pins (Pin s ∷ h)) ≤ sum_by (to_try notes) (open_pins h) + 1 =
    pinned_on (to_try notes) s h (at_most_one (not (has_note is_tried notes (record { session = s; before = h })))) in
    omega (arith, few, more)
tried_step base (Unpin s) h notes ok few =
    let less = unpinned_on (to_try notes) base s h ok in
    let sum : sum_by (to_try notes) (open_pins (Unpin s ∷ h)) + to_try notes (record { session = s; before = less.0 }) ≡ sum_by (to_try notes) (open_pins h) = less.1 in
    omega (arith, few, sum)
tried_step base (Commit t change used) h notes ok few = few
tried_step base Reap h notes ok few = few

tried_on : (base : Core) (notes : List Note) (i j : ℕ) (h : History) → i ≤ j → IsTrue (is_allowed base (drop i h)) → AreTriedFew (drop j h) notes → AreTriedFew (drop i h) notes
tried_on base notes zero zero h le ok few = few
tried_on base notes zero (suc j) [] le ok few = few
tried_on base notes zero (suc j) (entry ∷ h) le ok few =
    tried_step base entry h notes ok (tried_on base notes zero j h (omega arith) (allowed_before base h entry ok) few)
tried_on base notes (suc i) zero h le ok few = absurd (omega (arith, le))
tried_on base notes (suc i) (suc j) [] le ok few = few
tried_on base notes (suc i) (suc j) (entry ∷ h) le ok few = tried_on base notes i j h (omega (arith, le)) ok few

allowed_drop : (base : Core) (n : ℕ) (h : History) → IsTrue (is_allowed base h) → IsTrue (is_allowed base (drop n h))
allowed_drop base zero h ok = ok
allowed_drop base (suc n) [] ok = ok
allowed_drop base (suc n) (entry ∷ h) ok = allowed_drop base n h (allowed_before base h entry ok)

all_same : (f g : OpenPin → ℕ) → ((pin : OpenPin) → f pin ≡ g pin) → (these : List OpenPin) → sum_by f these ≡ sum_by g these
all_same f g one [] = refl
all_same f g one (pin ∷ these) = sum_by-cons f pin these ∙ ap (λ (n : ℕ). n + sum_by f these) (one pin) ∙ ap (λ (n : ℕ). g pin + n) (all_same f g one these) ∙ sym (sum_by-cons g pin these)

other_session : (s t : ℕ) (b c : Bool) → nat_eq t s ≡ false → one_if (not ((nat_eq s t && b) || c)) ≡ one_if (not c)
other_session s t b c e = ap (λ (a : Bool). one_if (not ((a && b) || c))) (eq_sym s t ∙ e)

both_true : (a b c : Bool) → a ≡ true → b ≡ true → one_if (not ((a && b) || c)) ≡ 0
both_true true true c e f = refl
both_true true false c e f = absurd cc
both_true false b c e f = absurd cc

at_most : (n count : ℕ) → nat_le n count ≡ true → n ≤ count
at_most n count e = grind (arith, nat_tests)

never : (a c : Bool) → one_if (not ((a && false) || c)) ≡ one_if (not c)
never true c = refl
never false c = refl

earlier : (n count : ℕ) → n < count → nat_lt n count ≡ true
earlier n count lt = grind (arith, nat_tests)

-- each note is under a pin under which none was before
module _ (base : Core) (h : History) (others : List Note) (session after : ℕ) (before : History) (ok : IsTrue (is_allowed base h)) (begun : pin_before session h ≡ Some before) (at : after ≡ length h)
    (few : AreTriedFew h others) where
  abbrev own : OpenPin
  own = record { session = session; before = before }

  abbrev with_fault : OpenPin → ℕ
  with_fault pin = one_if (not ((nat_eq session pin.session && false) || has_note is_tried others pin))

  abbrev with_tried : OpenPin → ℕ
  with_tried pin = one_if (not ((nat_eq session pin.session && nat_lt (length pin.before) after) || has_note is_tried others pin))

  faulted : tried_in others + sum_by with_fault (open_pins h) ≤ pins h
  faulted =
      let same : sum_by with_fault (open_pins h) ≡ sum_by (to_try others) (open_pins h) = all_same with_fault (to_try others) (λ pin. never (nat_eq session pin.session) (has_note is_tried others pin)) (open_pins h) in
      omega (arith, few, same)

  tried : has_note is_tried others own ≡ false → suc (tried_in others) + sum_by with_tried (open_pins h) ≤ pins h
  tried once =
      let f : OpenPin → ℕ = to_try others in
      let fs : sum_by f (open_pins h) ≡ sum_by f (filter (λ pin. not (is_by session pin)) (open_pins h)) + f own = own_sum f base session h before ok begun in
      let gs : sum_by with_tried (open_pins h) ≡ sum_by with_tried (filter (λ pin. not (is_by session pin)) (open_pins h)) + with_tried own = own_sum with_tried base session h before ok begun in
      let same : sum_by with_tried (filter (λ pin. not (is_by session pin)) (open_pins h)) ≡ sum_by f (filter (λ pin. not (is_by session pin)) (open_pins h)) =
      same_sum with_tried f (is_by session) (λ pin e. other_session session pin.session (nat_lt (length pin.before) after) (has_note is_tried others pin) e) (open_pins h) in
      let place : PlaceTells h before = places_tell_pins session h before begun in
      let later : nat_lt (length before) after ≡ true = earlier (length before) after (omega (arith, at, place.within)) in
      let one : f own ≡ 1 = ap (λ (b : Bool). one_if (not b)) once in
      let none_is : with_tried own ≡ 0 = both_true (nat_eq session session) (nat_lt (length before) after) (has_note is_tried others own) (eq-eqb session session refl) later in
      omega (arith, few, fs, gs, same, one, none_is)

  tried_note : (kind : NoteKind) → has_note (is_kind kind) others own ≡ false → AreTriedFew h (record { session = session; kind = kind; after = after } ∷ others)
  tried_note Fault once = faulted
  tried_note (Tried change) once = tried once

-- the pin of a note, as it stands where the note was made
begun_at : (s : ℕ) (h : History) (P : History → Type 0) → is_pinned s h ≡ true → IfSome (pin_before s h) P → (before : History) × (pin_before s h ≡ Some before) × P before
begun_at s h P pinned is =
    let begun = begun_of s h pinned in
    let its : IfSome (Some begun.0) P = subst (λ (o : Option History). IfSome o P) begun.1 is in
    (begun.0, begun.1, its)

length_up_to : (place : ℕ) (h : History) → place ≤ length h → length (up_to place h) ≡ place
length_up_to place h le = let left = length-drop (length h - place) h in omega (arith, left, le)

tried_few : (base : Core) (h : History) → IsTrue (is_allowed base h) → (notes : List Note) → AreNoted h notes → (bound : ℕ) → bound ≤ length h → IsTrue (list_all (λ note. nat_le note.after bound) notes)
    → AreTriedFew (up_to bound h) notes
tried_few base h ok [] noted bound le within =
    tried_on base [] (length h - bound) (length h) h (omega arith) (allowed_drop base (length h - bound) h ok) (subst (λ (g : History). AreTriedFew g []) (sym (drop_all (length h) h (omega arith))) (omega arith))
tried_few base h ok (note ∷ others) noted bound le within =
    let n : IsNote h others note = noted.1 in
    let place : ℕ = note.after in
    let here : History = up_to place h in
    let here_ok : IsTrue (is_allowed base here) = allowed_drop base (length h - place) h ok in
    let rest : AreTriedFew here others = tried_few base h ok others noted.0 place n.within n.rising in
    let begun = begun_at note.session here (λ before. has_note (is_kind note.kind) others (record { session = note.session; before = before }) ≡ false) n.pinned n.once in
    let with_it : AreTriedFew here (note ∷ others) =
    tried_note base here others note.session place begun.0 here_ok begun.1 (sym (length_up_to place h n.within)) rest note.kind begun.2 in
    let low : place ≤ bound = at_most place bound (and_parts (nat_le place bound) (list_all (λ other. nat_le other.after bound) others) within).0 in
    tried_on base (note ∷ others) (length h - bound) (length h - place) h (omega (arith, low)) (allowed_drop base (length h - bound) h ok) with_it

-- ---- all of them

counted_reverse : (p : Note → Bool) (notes : List Note) → length (filter p (reverse notes)) ≡ length (filter p notes)
counted_reverse p [] = refl
counted_reverse p (note ∷ notes) =
    ap (λ (ns : List Note). length (filter p ns)) (reverse-append (note ∷ []) notes)
    ∙ ap (λ (ns : List Note). length ns) (filter-append p (reverse notes) (note ∷ []))
    ∙ length-append (filter p (reverse notes)) (filter p (note ∷ []))
    ∙ swapped (p note) (counted_reverse p notes)
  where
    swapped : (b : Bool) → length (filter p (reverse notes)) ≡ length (filter p notes)
        → length (filter p (reverse notes)) + length (if b then note ∷ [] else []) ≡ length (if b then note ∷ filter p notes else filter p notes)
    swapped true e = omega (arith, e)
    swapped false e = omega (arith, e)

pub reaps_few : ReapsAreFew
reaps_few ledger is ordered =
    let h : History = history ledger in
    let by_unpins : unpins h + sum_by (λ pin. 1) (open_pins h) ≤ pins h = unpins_few ledger.base h is.allowed in
    let by_commits : commits h + sum_by (to_commit h) (open_pins h) ≤ pins h = commits_few ledger.base h ordered is.allowed in
    let within = within_all h (reverse ledger.notes) is.notes in
    let by_tried : tried_in (reverse ledger.notes) + sum_by (to_try (reverse ledger.notes)) (open_pins h) ≤ pins h =
    subst (λ (g : History). AreTriedFew g (reverse ledger.notes)) (all_entries_are_the_history h)
    (tried_few ledger.base h is.allowed (reverse ledger.notes) is.notes (length h) (omega arith) within) in
    let tried : tried_in (reverse ledger.notes) ≡ tried_in ledger.notes = counted_reverse (λ note. is_tried note.kind) ledger.notes in
    let few : reaps h + one_if (is_waiting ledger.base h) ≤ commits h + unpins h + tried_in ledger.notes = is.few in
    omega (arith, few, by_unpins, by_commits, by_tried, tried)
