-- Open pins, and what was before them.
use Rattle.std.proofs.Common.{◌≡◌, ◌∙◌, ℕ, ◌-◌, Bool, true, false, not, ◌&&◌, if◌then◌else◌, nat_eq, List, [], ◌∷◌, ◌++◌, length, drop, map, Option, None, Some, refl, ap, sym, arith, append-nil, length-append}
use Rattle.std.specs.List.{filter, list_all}
use Rattle.std.proofs.Math.Seq.{drop-append_seam}
use Rattle.std.proofs.lemmas.Bool.{and_parts, or_parts, not-true, eqb-true, eq-eqb}
use Rattle.std.proofs.lemmas.List.Elements.{filter-append}
use Rattle.event_core.specs.declared.entry.Entry.{Entry}
use Rattle.event_core.specs.declared.entry.Entry.TheVariants.{Pin, Unpin, Commit, Reap}
use Rattle.event_core.specs.Allowed.{is_pinned}
use Rattle.event_core.specs.Cells.{at}
use Rattle.event_core.specs.History.{History, OpenPin, names_at, pages_at, open_pins, pin_before, leaves_pin, up_to}
use Rattle.event_core.specs.Replay.{pin_at}
use Rattle.event_core.proofs.Tests.{both_not, map_filter, filter_agrees, eq_sym}
use Rattle.event_core.proofs.Runs.{allowed_before, allowed_now}
use Rattle.store_versions.specs.Pins.{PinsStay, OpenPinsStay, pins_of, OpenPinsAreThese, CorePinsAreThese, BeginningsAreKept, AllEntriesAreTheHistory, PlacesTellPins}
use Rattle.store_versions.proofs.Conserved.{filter_filter}

otherwise : (b : Bool) (x y : Option History) → b ≡ false → (if b then x else y) ≡ y
otherwise true x y f = absurd (both_not true f refl)
otherwise false x y f = refl

pub open_pins_stay : OpenPinsStay
open_pins_stay s [] h ok = refl
open_pins_stay s (Pin t ∷ later) h ok =
    let p : (not (nat_eq t s) ≡ true) × (list_all (leaves_pin s) later ≡ true) = and_parts (not (nat_eq t s)) (list_all (leaves_pin s) later) ok in
    otherwise (nat_eq t s) (Some (later ++ h)) (pin_before s (later ++ h)) (not-true _ p.0) ∙ open_pins_stay s later h p.1
open_pins_stay s (Unpin t ∷ later) h ok =
    let p : (not (nat_eq t s) ≡ true) × (list_all (leaves_pin s) later ≡ true) = and_parts (not (nat_eq t s)) (list_all (leaves_pin s) later) ok in
    otherwise (nat_eq t s) None (pin_before s (later ++ h)) (not-true _ p.0) ∙ open_pins_stay s later h p.1
open_pins_stay s (Commit t change used ∷ later) h ok = open_pins_stay s later h ok
open_pins_stay s (Reap ∷ later) h ok = open_pins_stay s later h ok

pub pins_stay : PinsStay
pins_stay s later before ok =
    open_pins_stay s later (Pin s ∷ before) ok ∙ ap (λ (b : Bool). if b then Some before else pin_before s before) (eq-eqb s s refl)

unpinned_then : (b p : Bool) (y : Option History) → (not b && p) ≡ false → (p ≡ false → y ≡ None) → (if b then None else y) ≡ None
unpinned_then true p y e none = refl
unpinned_then false p y e none = none e

-- a session that isn't pinned has no open pin
unpinned : (s : ℕ) (h : History) → is_pinned s h ≡ false → pin_before s h ≡ None
unpinned s [] n = refl
unpinned s (Pin t ∷ before) n =
    let p : (nat_eq t s ≡ false) × (is_pinned s before ≡ false) = or_parts (nat_eq t s) (is_pinned s before) n in
    otherwise (nat_eq t s) (Some before) (pin_before s before) p.0 ∙ unpinned s before p.1
unpinned s (Unpin t ∷ before) n = unpinned_then (nat_eq t s) (is_pinned s before) (pin_before s before) n (unpinned s before)
unpinned s (Commit t change used ∷ before) n = unpinned s before n
unpinned s (Reap ∷ before) n = unpinned s before n

-- ---- the open pins of a session

one_more : (b : Bool) (s t : ℕ) (before : History) (pins : List OpenPin) → nat_eq t s ≡ b → pins ≡ pins_of s (pin_before s before) → is_pinned t before ≡ false →
    pins ++ (if b then record { session = t; before = before } ∷ [] else []) ≡ pins_of s (if b then Some before else pin_before s before)
one_more true s t before pins e are n =
    let same : t ≡ s = eqb-true t s e in
    let none : pin_before s before ≡ None = unpinned s before (ap (λ k. is_pinned k before) (sym same) ∙ n) in
    ap (λ (ps : List OpenPin). ps ++ record { session = t; before = before } ∷ []) (are ∙ ap (pins_of s) none)
    ∙ ap (λ (k : ℕ). pins_of k (Some before)) same
one_more false s t before pins e are n = append-nil pins ∙ are

nothing_kept : {A : Type 0} (xs : List A) → filter (λ x. false) xs ≡ []
nothing_kept [] = refl
nothing_kept (x ∷ xs) = nothing_kept xs

never : (b : Bool) → (not b && b) ≡ false
never true = refl
never false = refl

still : (a c : Bool) → (c ≡ true → a ≡ false) → (not a && c) ≡ c
still true true f = absurd (both_not true (f refl) refl)
still false true f = refl
still true false f = refl
still false false f = refl

-- the pins of a session behind an unpin of this or another one
cut : (b : Bool) (s t : ℕ) (pins : List OpenPin) → nat_eq t s ≡ b →
    filter (λ pin. not (nat_eq pin.session t) && nat_eq pin.session s) pins ≡ (if b then [] else filter (λ pin. nat_eq pin.session s) pins)
cut true s t pins e =
    filter_agrees (λ (pin : OpenPin). not (nat_eq pin.session t) && nat_eq pin.session s) (λ pin. false)
    (λ pin. ap (λ k. not (nat_eq pin.session k) && nat_eq pin.session s) (eqb-true t s e) ∙ never (nat_eq pin.session s)) pins
    ∙ nothing_kept pins
cut false s t pins e =
    filter_agrees (λ (pin : OpenPin). not (nat_eq pin.session t) && nat_eq pin.session s) (λ pin. nat_eq pin.session s)
    (λ pin. still (nat_eq pin.session t) (nat_eq pin.session s) (λ same. ap (λ k. nat_eq k t) (eqb-true pin.session s same) ∙ eq_sym s t ∙ e)) pins

left : (b : Bool) (s : ℕ) (pins : List OpenPin) (before : Option History) → pins ≡ pins_of s before → (if b then [] else pins) ≡ pins_of s (if b then None else before)
left true s pins before are = refl
left false s pins before are = are

pub open_pins_are_these : OpenPinsAreThese
open_pins_are_these base s [] ok = refl
open_pins_are_these base s (Pin t ∷ before) ok =
    filter-append (λ (pin : OpenPin). nat_eq pin.session s) (open_pins before) (record { session = t; before = before } ∷ [])
    ∙ one_more (nat_eq t s) s t before (filter (λ pin. nat_eq pin.session s) (open_pins before)) refl
    (open_pins_are_these base s before (allowed_before base before (Pin t) ok)) (not-true _ (allowed_now base before (Pin t) ok))
open_pins_are_these base s (Unpin t ∷ before) ok =
    filter_filter (λ (pin : OpenPin). not (nat_eq pin.session t)) (λ pin. nat_eq pin.session s) (open_pins before)
    ∙ cut (nat_eq t s) s t (open_pins before) refl
    ∙ left (nat_eq t s) s (filter (λ pin. nat_eq pin.session s) (open_pins before)) (pin_before s before) (open_pins_are_these base s before (allowed_before base before (Unpin t) ok))
open_pins_are_these base s (Commit t change used ∷ before) ok = open_pins_are_these base s before (allowed_before base before (Commit t change used) ok)
open_pins_are_these base s (Reap ∷ before) ok = open_pins_are_these base s before (allowed_before base before Reap ok)

pub core_pins_are_these : CorePinsAreThese
core_pins_are_these base s h ok =
    sym (map_filter (pin_at base) (λ pin. nat_eq pin.session s) (open_pins h)) ∙ ap (map (pin_at base)) (open_pins_are_these base s h ok)

-- ---- places

pub beginnings_are_kept : BeginningsAreKept
beginnings_are_kept later before =
    let later_ones : length (later ++ before) - length before ≡ length later = omega (arith, length-append later before) in
    ap (λ n. drop n (later ++ before)) later_ones ∙ drop-append_seam later before

pub all_entries_are_the_history : AllEntriesAreTheHistory
all_entries_are_the_history h = beginnings_are_kept [] h

-- a history with at least one entry behind a beginning
abbrev Behind : History → History → Type 0
Behind h before = (entry : Entry) × (later : History) × (h ≡ (entry ∷ later) ++ before)

one_behind : (entry : Entry) (rest before : History) → Behind rest before → Behind (entry ∷ rest) before
one_behind entry rest before p = (entry, p.0 ∷ p.1, ap (λ (h : History). entry ∷ h) p.2)

found_or : (b : Bool) (entry : Entry) (rest before : History) (y : Option History) → (if b then Some rest else y) ≡ Some before →
    (y ≡ Some before → Behind rest before) → Behind (entry ∷ rest) before
found_or true entry rest before y e behind = let same : rest ≡ before = cc in (entry, [], ap (λ (h : History). entry ∷ h) same)
found_or false entry rest before y e behind = one_behind entry rest before (behind e)

lost_or : (b : Bool) (entry : Entry) (rest before : History) (y : Option History) → (if b then None else y) ≡ Some before →
    (y ≡ Some before → Behind rest before) → Behind (entry ∷ rest) before
lost_or true entry rest before y e behind = cc
lost_or false entry rest before y e behind = one_behind entry rest before (behind e)

-- what was before an open pin is a beginning of the history
behind_pin : (s : ℕ) (h before : History) → pin_before s h ≡ Some before → Behind h before
behind_pin s [] before e = cc
behind_pin s (Pin t ∷ rest) before e = found_or (nat_eq t s) (Pin t) rest before (pin_before s rest) e (behind_pin s rest before)
behind_pin s (Unpin t ∷ rest) before e = lost_or (nat_eq t s) (Unpin t) rest before (pin_before s rest) e (behind_pin s rest before)
behind_pin s (Commit t change used ∷ rest) before e = one_behind (Commit t change used) rest before (behind_pin s rest before e)
behind_pin s (Reap ∷ rest) before e = one_behind Reap rest before (behind_pin s rest before e)

pub places_tell_pins : PlacesTellPins
places_tell_pins s h before e =
    let p : Behind h before = behind_pin s h before e in
    let found : up_to (length before) h ≡ before = ap (up_to (length before)) p.2 ∙ beginnings_are_kept (p.0 ∷ p.1) before in
    record {
      within = omega (arith, ap length p.2, length-append (p.0 ∷ p.1) before);
      history = found;
      names = λ base. ap (names_at base) found;
      pages = λ base. ap (pages_at base) found;
      database = λ db. ap (at db) found;
    }
