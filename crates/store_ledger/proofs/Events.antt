-- Events, one after the other.
use Rattle.std.proofs.Common.{◌≡◌, ◌∙◌, ℕ, suc, ◌+◌, Bool, true, false, if◌then◌else◌, nat_eq, nat_le, List, [], ◌∷◌, ◌++◌, length, map, refl, ap, sym, arith, append_assoc, append-nil, add-zero, zero-add}
use Rattle.std.specs.List.{filter, list_all}
use Rattle.std.proofs.lemmas.Bool.{and_parts}
use Rattle.std.proofs.lemmas.Bool.Decides.{nat_tests}
use Rattle.std.proofs.lemmas.List.{map-append}
use Rattle.std.proofs.lemmas.List.Elements.{filter-append}
use Rattle.store_versions.specs.Entry.{Entry}
use Rattle.store_versions.proofs.Tests.{both_not, if_tests}
use Rattle.store_ledger.specs.declared.note.Note.{Note}
use Rattle.store_ledger.specs.Ledger.{Event, entered, noted, events_from}
use Rattle.store_ledger.specs.Laws.{EventsGrowByEntries, EventsGrowByNotes}

both : (n count : ℕ) → nat_le n count ≡ true → nat_le count n ≡ nat_eq n count
both n count e = grind (arith, nat_tests)

past : (n count : ℕ) → nat_le n count ≡ true → nat_le (count + 1) n ≡ false
past n count e = grind (arith, nat_tests)

none_if : (b : Bool) (note : Note) (rest : List Note) → b ≡ false → rest ≡ [] → (if b then note ∷ rest else rest) ≡ []
none_if true note rest e f = absurd (both_not true e refl)
none_if false note rest e f = f

-- where no note has more entries before it than a place has, those from there on are those at it
here : (place : ℕ) (notes : List Note) → list_all (λ note. nat_le note.after place) notes ≡ true →
    filter (λ note. nat_le place note.after) notes ≡ filter (λ note. nat_eq note.after place) notes
here place [] within = refl
here place (note ∷ notes) within =
    let p : (nat_le note.after place ≡ true) × (list_all (λ other. nat_le other.after place) notes ≡ true) = and_parts (nat_le note.after place) (list_all (λ other. nat_le other.after place) notes) within in
    if_tests (nat_le place note.after) (nat_eq note.after place) note _ _ (both note.after place p.0) (here place notes p.1)

-- and none is behind it
none_behind : (place : ℕ) (notes : List Note) → list_all (λ note. nat_le note.after place) notes ≡ true → filter (λ note. nat_le (place + 1) note.after) notes ≡ []
none_behind place [] within = refl
none_behind place (note ∷ notes) within =
    let p : (nat_le note.after place ≡ true) × (list_all (λ other. nat_le other.after place) notes ≡ true) = and_parts (nat_le note.after place) (list_all (λ other. nat_le other.after place) notes) within in
    none_if (nat_le (place + 1) note.after) note (filter (λ other. nat_le (place + 1) other.after) notes) (past note.after place p.0) (none_behind place notes p.1)

more_entries : (place : ℕ) (entries : List Entry) (notes : List Note) (entry : Entry) → list_all (λ note. nat_le note.after (place + length entries)) notes ≡ true →
    events_from place (entries ++ entry ∷ []) notes ≡ events_from place entries notes ++ entered entry ∷ []
more_entries place [] notes entry within =
    let all : list_all (λ note. nat_le note.after place) notes ≡ true = ap (λ (n : ℕ). list_all (λ note. nat_le note.after n) notes) (sym (add-zero place)) ∙ within in
    ap (λ (ns : List Note). map noted ns ++ entered entry ∷ map noted (filter (λ note. nat_le (place + 1) note.after) notes)) (sym (here place notes all))
    ∙ ap (λ (ns : List Note). map noted (filter (λ note. nat_le place note.after) notes) ++ entered entry ∷ map noted ns) (none_behind place notes all)
more_entries place (first ∷ entries) notes entry within =
    let next : place + suc (length entries) ≡ (place + 1) + length entries = omega arith in
    ap (λ (es : List Event). map noted (filter (λ note. nat_eq note.after place) notes) ++ entered first ∷ es)
    (more_entries (place + 1) entries notes entry (ap (λ (n : ℕ). list_all (λ note. nat_le note.after n) notes) (sym next) ∙ within))
    ∙ sym (append_assoc (map noted (filter (λ note. nat_eq note.after place) notes)) (entered first ∷ events_from (place + 1) entries notes) (entered entry ∷ []))

pub events_grow_by_entries : EventsGrowByEntries
events_grow_by_entries ledger entry within =
    let all : list_all (λ note. nat_le note.after (0 + length ledger.entries)) ledger.notes ≡ true =
    ap (λ (n : ℕ). list_all (λ note. nat_le note.after n) ledger.notes) (zero-add (length ledger.entries)) ∙ within in
    more_entries 0 ledger.entries ledger.notes entry all

kept_if : (b : Bool) (note : Note) → b ≡ true → (if b then note ∷ [] else []) ≡ note ∷ []
kept_if true note e = refl
kept_if false note e = absurd (both_not true (sym e) refl)

left_if : (b : Bool) (note : Note) → b ≡ false → (if b then note ∷ [] else []) ≡ []
left_if true note e = absurd (both_not true e refl)
left_if false note e = refl

at_end : (place n : ℕ) → n ≡ place + 0 → nat_le place n ≡ true
at_end place n e = grind (arith, nat_tests)

not_here : (place n count : ℕ) → n ≡ place + suc count → nat_eq n place ≡ false
not_here place n count e = grind (arith, nat_tests)

more_notes : (place : ℕ) (entries : List Entry) (notes : List Note) (note : Note) → note.after ≡ place + length entries →
    events_from place entries (notes ++ note ∷ []) ≡ events_from place entries notes ++ noted note ∷ []
more_notes place [] notes note at_its =
    ap (map noted) (filter-append (λ (other : Note). nat_le place other.after) notes (note ∷ [])
    ∙ ap (λ (ns : List Note). filter (λ other. nat_le place other.after) notes ++ ns) (kept_if (nat_le place note.after) note (at_end place note.after at_its)))
    ∙ map-append noted (filter (λ other. nat_le place other.after) notes) (note ∷ [])
more_notes place (first ∷ entries) notes note at_its =
    let next : note.after ≡ (place + 1) + length entries = at_its ∙ omega arith in
    ap (λ (ns : List Note). map noted ns ++ entered first ∷ events_from (place + 1) entries (notes ++ note ∷ []))
    (filter-append (λ (other : Note). nat_eq other.after place) notes (note ∷ [])
    ∙ ap (λ (ns : List Note). filter (λ other. nat_eq other.after place) notes ++ ns) (left_if (nat_eq note.after place) note (not_here place note.after (length entries) at_its))
    ∙ append-nil (filter (λ other. nat_eq other.after place) notes))
    ∙ ap (λ (es : List Event). map noted (filter (λ other. nat_eq other.after place) notes) ++ entered first ∷ es) (more_notes (place + 1) entries notes note next)
    ∙ sym (append_assoc (map noted (filter (λ other. nat_eq other.after place) notes)) (entered first ∷ events_from (place + 1) entries notes) (noted note ∷ []))

pub events_grow_by_notes : EventsGrowByNotes
events_grow_by_notes ledger note at_its = more_notes 0 ledger.entries ledger.notes note (at_its ∙ sym (zero-add (length ledger.entries)))
