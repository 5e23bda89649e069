-- How many events there are.
use Rattle.std.proofs.Common.{◌≡◌, ◌∙◌, ℕ, suc, ◌+◌, Bool, true, false, if◌then◌else◌, nat_eq, nat_le, List, [], ◌∷◌, ◌++◌, length, map, refl, ap, sym, arith, length-append}
use Rattle.std.specs.List.{filter}
use Rattle.std.proofs.lemmas.Bool.Decides.{nat_tests}
use Rattle.std.proofs.lemmas.List.{length-map}
use Rattle.array_rows.specs.Boxes.{by_pairs}
use Rattle.event_core.specs.declared.entry.Entry.{Entry}
use Rattle.event_core.specs.declared.entry.Entry.TheVariants.{Pin, Unpin, Commit, Reap}
use Rattle.event_core.proofs.Tests.{both_not}
use Rattle.store_ledger.specs.declared.note.Note.{Note}
use Rattle.store_ledger.specs.Ledger.{Event as LedgerEvent, entered, noted, events_from, events as ledger_events}
use Rattle.store_opening.specs.Events.{Seal, events, sealed}
use Rattle.store_opening.specs.Standings.{Standing}

here_le : (place n : ℕ) → nat_eq n place ≡ true → nat_le place n ≡ true
here_le place n e = grind (arith, nat_tests)

behind_le : (place n : ℕ) → nat_le (place + 1) n ≡ true → nat_le place n ≡ true
behind_le place n e = grind (arith, nat_tests)

behind_if : (place n : ℕ) → nat_le place n ≡ true → nat_eq n place ≡ false → nat_le (place + 1) n ≡ true
behind_if place n e f = grind (arith, nat_tests)

here_only : (place n : ℕ) → nat_eq n place ≡ true → nat_le (place + 1) n ≡ false
here_only place n e = grind (arith, nat_tests)

parted_one : (a b c : Bool) (note : Note) (xs ys zs : List Note) → (b ≡ true → a ≡ true) → (c ≡ true → a ≡ true) →
    (a ≡ true → b ≡ false → c ≡ true) → (b ≡ true → c ≡ false) → length xs ≡ length ys + length zs →
    length (if a then note ∷ xs else xs) ≡ length (if b then note ∷ ys else ys) + length (if c then note ∷ zs else zs)
parted_one true true true note xs ys zs f g h k e = absurd (both_not true (k refl) refl)
parted_one true true false note xs ys zs f g h k e = omega (arith, e)
parted_one true false true note xs ys zs f g h k e = omega (arith, e)
parted_one true false false note xs ys zs f g h k e = absurd (both_not false refl (h refl refl))
parted_one false true c note xs ys zs f g h k e = absurd (both_not false refl (f refl))
parted_one false false true note xs ys zs f g h k e = absurd (both_not false refl (g refl))
parted_one false false false note xs ys zs f g h k e = e

-- of the notes from a place on some are at it, and the others behind it
parted : (place : ℕ) (notes : List Note) →
    length (filter (λ note. nat_le place note.after) notes)
    ≡ length (filter (λ note. nat_eq note.after place) notes) + length (filter (λ note. nat_le (place + 1) note.after) notes)
parted place [] = refl
parted place (note ∷ notes) =
    parted_one (nat_le place note.after) (nat_eq note.after place) (nat_le (place + 1) note.after) note _ _ _
    (here_le place note.after) (behind_le place note.after) (behind_if place note.after) (here_only place note.after) (parted place notes)

count_from : (place : ℕ) (entries : List Entry) (notes : List Note) →
    length (events_from place entries notes) ≡ length entries + length (filter (λ note. nat_le place note.after) notes)
count_from place [] notes =
    let all : length (map noted (filter (λ note. nat_le place note.after) notes)) ≡ length (filter (λ note. nat_le place note.after) notes) =
    length-map (filter (λ note. nat_le place note.after) notes) noted in
    omega (arith, all)
count_from place (entry ∷ entries) notes =
    let at_it : List LedgerEvent = map noted (filter (λ note. nat_eq note.after place) notes) in
    let later : List LedgerEvent = events_from (place + 1) entries notes in
    let both : length (at_it ++ entered entry ∷ later) ≡ length at_it + length (entered entry ∷ later) = length-append at_it (entered entry ∷ later) in
    let here : length at_it ≡ length (filter (λ note. nat_eq note.after place) notes) = length-map (filter (λ note. nat_eq note.after place) notes) noted in
    omega (arith, both, here, count_from (place + 1) entries notes, parted place notes)

kept_one : (b : Bool) (note : Note) (xs ys : List Note) → b ≡ true → xs ≡ ys → (if b then note ∷ xs else xs) ≡ note ∷ ys
kept_one true note xs ys e same = ap (λ (ns : List Note). note ∷ ns) same
kept_one false note xs ys e same = absurd (both_not false refl e)

from_zero : (n : ℕ) → nat_le 0 n ≡ true
from_zero n = grind (arith, nat_tests)

pub all_notes : (notes : List Note) → filter (λ note. nat_le 0 note.after) notes ≡ notes
all_notes [] = refl
all_notes (note ∷ notes) = kept_one (nat_le 0 note.after) note _ _ (from_zero note.after) (all_notes notes)

-- each event of a ledger is one of a store
sealed_count : (all : List LedgerEvent) (seals : List Seal) → length (sealed all seals) ≡ length all
sealed_count [] seals = refl
sealed_count (entered (Pin session) ∷ all) seals = ap suc (sealed_count all seals)
sealed_count (entered (Unpin session) ∷ all) seals = ap suc (sealed_count all seals)
sealed_count (entered (Commit session change used) ∷ all) [] = ap suc (sealed_count all [])
sealed_count (entered (Commit session change used) ∷ all) (seal ∷ seals) = ap suc (sealed_count all seals)
sealed_count (entered Reap ∷ all) seals = ap suc (sealed_count all seals)
sealed_count (noted note ∷ all) seals = ap suc (sealed_count all seals)

pub events_count : {D : Type 0} (s : Standing D) → length s.ledger.entries + length s.ledger.notes ≡ length (events s)
events_count s =
    let all : length (ledger_events s.ledger) ≡ length s.ledger.entries + length (filter (λ note. nat_le 0 note.after) s.ledger.notes) =
    count_from 0 s.ledger.entries s.ledger.notes in
    let notes : length (filter (λ note. nat_le 0 note.after) s.ledger.notes) ≡ length s.ledger.notes = ap length (all_notes s.ledger.notes) in
    let sum : length s.ledger.entries + length s.ledger.notes ≡ length (ledger_events s.ledger) = omega (arith, all, notes) in
    sum ∙ sym (sealed_count (ledger_events s.ledger) (by_pairs (λ moment directory. record { moment = moment; directory = directory }) s.acked s.made))
