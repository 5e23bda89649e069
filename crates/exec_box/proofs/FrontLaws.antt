-- Lists as functions read them from the front: what is pushed first stands before what the rest gives.
use Rattle.std.proofs.Common.{◌≡◌, ◌∙◌, Bool, true, false, cond, ℕ, ◌+◌, ◌/◌, ◌≤◌, ◌<◌, ℤ, pos, ◌+ℤ◌, ◌-ℤ◌, List, [], ◌∷◌, ◌++◌, append-nil, append_assoc, map, length, take, get_or, Option, None, Some, sym, ap, arith}
use Rattle.std.specs.Int.{w64, saturate_signed}
use Rattle.std.specs.Prelude.{unsigned_abs}
use Rattle.std.proofs.lemmas.List.{length-map, length-take-le, map-append, map_more}
use Rattle.std.proofs.lemmas.List.Elements.{filter_more}
use Rattle.cell_values.specs.declared.datum.Row.{Row}
use Rattle.array_rows.specs.Rows.{Coordinate, rows_where}
use Rattle.array_rows.specs.Dimension.{Dimension}
use Rattle.array_geom.proofs.Fronts.{rest, rest_is}
use Rattle.logical_plan.specs.declared.parts.Fixed.{Fixed}
use Rattle.exec_box.specs.Inner.Reached.{chunks_from}
use Rattle.exec_box.specs.Inner.Spread.{fixed_number, raised, spread, spread_by}

-- a loop that has pushed a number for each item so far has room for the next
pub room_for : {A B : Type 0} (f : A → B) (xs : List A) (i : ℕ) (out : List B) → out ≡ map f (take i xs) → i < length xs → length xs ≤ 6 → length out < 6
room_for f xs i out is less few = omega (arith, less, few, ap length is ∙ length-map (take i xs) f ∙ length-take-le i xs (omega (arith, less)))

-- one more item
pub one_more : {A B : Type 0} (f : A → B) (xs : List A) (i : ℕ) (d : A) (z : B) (old new : List B) → i < length xs → d ≡ get_or xs i d
    → old ≡ map f (take i xs) → new ≡ old ++ z ∷ [] → z ≡ f d → new ≡ map f (take (i + 1) xs)
one_more {A} {B} f xs i d z old new less item is pushed same =
    pushed ∙ ap (λ (l : List B). l ++ z ∷ []) is ∙ ap (λ (y : B). map f (take i xs) ++ y ∷ []) (same ∙ ap f item) ∙ sym (map_more f xs i d less)

kept : (f : Row → Row) (b : Bool) (row : Row) (rows : List Row) → map f rows ++ cond b (f row ∷ []) [] ≡ map f (rows ++ cond b (row ∷ []) [])
kept f true row rows = sym (map-append f rows (row ∷ []))
kept f false row rows = sym (map-append f rows [])

-- one more row, where it passes
pub row_more : (f : Row → Row) (test : Coordinate → Bool) (rows : List Row) (i : ℕ) (row : Row) (old new : List Row) → i < length rows → row ≡ get_or rows i row
    → old ≡ map f (rows_where test (take i rows)) → new ≡ old ++ cond (test row.at.items) (f row ∷ []) [] → new ≡ map f (rows_where test (take (i + 1) rows))
row_more f test rows i row old new less item is pushed =
    let so_far = rows_where test (take i rows) in
    pushed ∙ ap (λ (l : List Row). l ++ cond (test row.at.items) (f row ∷ []) []) is
    ∙ ap (λ (x : Row). map f so_far ++ cond (test x.at.items) (f x ∷ []) []) item
    ∙ kept f (test (get_or rows i row).at.items) (get_or rows i row) so_far
    ∙ ap (map f) (sym (filter_more (λ (x : Row). test x.at.items) rows i row less))

-- ---- how many chunks away

pub no_chunks : (dims : List Dimension) (low at : List ℤ) (old : List ℕ) → length dims < 1 → old ≡ old ++ chunks_from dims low at
no_chunks [] low at old none = sym (append-nil old)
no_chunks (d ∷ dims) low at old none = absurd (omega (arith, none))

pub no_chunks_low : (dims : List Dimension) (low at : List ℤ) (old : List ℕ) → length low < 1 → old ≡ old ++ chunks_from dims low at
no_chunks_low [] low at old none = sym (append-nil old)
no_chunks_low (d ∷ dims) [] at old none = sym (append-nil old)
no_chunks_low (d ∷ dims) (l ∷ low) at old none = absurd (omega (arith, none))

pub no_chunks_at : (dims : List Dimension) (low at : List ℤ) (old : List ℕ) → length at < 1 → old ≡ old ++ chunks_from dims low at
no_chunks_at [] low at old none = sym (append-nil old)
no_chunks_at (d ∷ dims) [] at old none = sym (append-nil old)
no_chunks_at (d ∷ dims) (l ∷ low) [] old none = sym (append-nil old)
no_chunks_at (d ∷ dims) (l ∷ low) (x ∷ at) old none = absurd (omega (arith, none))

pub chunks_pushed : (d : Dimension) (dims : List Dimension) (low at : List ℤ) (old more new : List ℕ) (n : ℕ) → 1 ≤ length dims → 1 ≤ length low
    → 1 ≤ length at → d ≡ get_or dims 0 d → more ≡ old ++ n ∷ [] → new ≡ more ++ chunks_from (rest dims) (rest low) (rest at)
    → n ≡ unsigned_abs (get_or at 0 (pos 0) -ℤ get_or low 0 (pos 0)) / d.chunk → new ≡ old ++ chunks_from dims low at
chunks_pushed d [] low at old more new n some _ _ _ _ _ _ = absurd (omega (arith, some))
chunks_pushed d (e ∷ dims) [] at old more new n _ some _ _ _ _ _ = absurd (omega (arith, some))
chunks_pushed d (e ∷ dims) (l ∷ low) [] old more new n _ _ some _ _ _ _ = absurd (omega (arith, some))
chunks_pushed d (e ∷ dims) (l ∷ low) (x ∷ at) old more new n _ _ _ first pushed after is =
    after ∙ ap (λ (ds : List Dimension). more ++ chunks_from ds (rest (l ∷ low)) (rest (x ∷ at))) (rest_is e dims)
    ∙ ap (λ (ls : List ℤ). more ++ chunks_from dims ls (rest (x ∷ at))) (rest_is l low)
    ∙ ap (λ (c : List ℤ). more ++ chunks_from dims low c) (rest_is x at)
    ∙ ap (λ (z : List ℕ). z ++ chunks_from dims low at) pushed ∙ append_assoc old (n ∷ []) (chunks_from dims low at)
    ∙ ap (λ (k : ℕ). old ++ k ∷ chunks_from dims low at) (is ∙ ap (λ (y : Dimension). unsigned_abs (x -ℤ l) / y.chunk) first)

-- ---- raised numbers

pub none_raised : (at low old : List ℤ) → length at < 1 → old ≡ old ++ raised at low
none_raised [] low old none = sym (append-nil old)
none_raised (x ∷ at) low old none = absurd (omega (arith, none))

pub raised_alone : (at low old more new : List ℤ) (z : ℤ) → 1 ≤ length at → length low < 1 → more ≡ old ++ z ∷ [] → new ≡ more ++ raised (rest at) low
    → z ≡ get_or at 0 (pos 0) → new ≡ old ++ raised at low
raised_alone [] low old more new z some _ _ _ _ = absurd (omega (arith, some))
raised_alone (x ∷ at) (l ∷ low) old more new z _ none _ _ _ = absurd (omega (arith, none))
raised_alone (x ∷ at) [] old more new z _ _ pushed after is =
    after ∙ ap (λ (c : List ℤ). more ++ raised c []) (rest_is x at) ∙ ap (λ (y : List ℤ). y ++ raised at []) pushed
    ∙ append_assoc old (z ∷ []) (raised at []) ∙ ap (λ (y : ℤ). old ++ y ∷ raised at []) is

pub raised_pushed : (at low old more new : List ℤ) (z : ℤ) → 1 ≤ length at → 1 ≤ length low → more ≡ old ++ z ∷ [] → new ≡ more ++ raised (rest at) (rest low)
    → z ≡ saturate_signed w64 (get_or at 0 (pos 0) +ℤ get_or low 0 (pos 0)) → new ≡ old ++ raised at low
raised_pushed [] low old more new z some _ _ _ _ = absurd (omega (arith, some))
raised_pushed (x ∷ at) [] old more new z _ some _ _ _ = absurd (omega (arith, some))
raised_pushed (x ∷ at) (l ∷ low) old more new z _ _ pushed after is =
    after ∙ ap (λ (c : List ℤ). more ++ raised c (rest (l ∷ low))) (rest_is x at) ∙ ap (λ (c : List ℤ). more ++ raised at c) (rest_is l low)
    ∙ ap (λ (y : List ℤ). y ++ raised at low) pushed ∙ append_assoc old (z ∷ []) (raised at low) ∙ ap (λ (y : ℤ). old ++ y ∷ raised at low) is

-- ---- spread numbers

pub none_spread : (fixed : List Fixed) (n : ℕ) (dims : List Dimension) (at old : List ℤ) → length dims < 1 → old ≡ old ++ spread fixed n dims at
none_spread fixed n [] at old none = sym (append-nil old)
none_spread fixed n (d ∷ dims) at old none = absurd (omega (arith, none))

pub spread_ends : (fixed : List Fixed) (n : ℕ) (dims : List Dimension) (at old : List ℤ) → fixed_number fixed n ≡ None → length at < 1
    → old ≡ old ++ spread fixed n dims at
spread_ends fixed n [] at old free none = sym (append-nil old)
spread_ends fixed n (d ∷ dims) (x ∷ at) old free none = absurd (omega (arith, none))
spread_ends fixed n (d ∷ dims) [] old free none =
    sym (ap (λ (o : Option ℤ). old ++ spread_by o [] (spread fixed (n + 1) dims)) free ∙ append-nil old)

pub spread_fixed : (fixed : List Fixed) (n : ℕ) (dims : List Dimension) (at old more new : List ℤ) (x z : ℤ) → 1 ≤ length dims → fixed_number fixed n ≡ Some x
    → more ≡ old ++ z ∷ [] → new ≡ more ++ spread fixed (n + 1) (rest dims) at → z ≡ x → new ≡ old ++ spread fixed n dims at
spread_fixed fixed n [] at old more new x z some _ _ _ _ = absurd (omega (arith, some))
spread_fixed fixed n (d ∷ dims) at old more new x z _ is pushed after same =
    let behind = spread fixed (n + 1) dims in
    after ∙ ap (λ (ds : List Dimension). more ++ spread fixed (n + 1) ds at) (rest_is d dims) ∙ ap (λ (l : List ℤ). l ++ behind at) pushed
    ∙ append_assoc old (z ∷ []) (behind at) ∙ ap (λ (y : ℤ). old ++ y ∷ behind at) same ∙ sym (ap (λ (o : Option ℤ). old ++ spread_by o at behind) is)

pub spread_free : (fixed : List Fixed) (n : ℕ) (dims : List Dimension) (at old more new : List ℤ) (z : ℤ) → 1 ≤ length dims → 1 ≤ length at
    → fixed_number fixed n ≡ None → more ≡ old ++ z ∷ [] → new ≡ more ++ spread fixed (n + 1) (rest dims) (rest at) → z ≡ get_or at 0 (pos 0)
    → new ≡ old ++ spread fixed n dims at
spread_free fixed n [] at old more new z some _ _ _ _ _ = absurd (omega (arith, some))
spread_free fixed n (d ∷ dims) [] old more new z _ some _ _ _ _ = absurd (omega (arith, some))
spread_free fixed n (d ∷ dims) (x ∷ at) old more new z _ _ is pushed after same =
    let behind = spread fixed (n + 1) dims in
    after ∙ ap (λ (ds : List Dimension). more ++ spread fixed (n + 1) ds (rest (x ∷ at))) (rest_is d dims)
    ∙ ap (λ (c : List ℤ). more ++ behind c) (rest_is x at) ∙ ap (λ (l : List ℤ). l ++ behind at) pushed
    ∙ append_assoc old (z ∷ []) (behind at) ∙ ap (λ (y : ℤ). old ++ y ∷ behind at) same
    ∙ sym (ap (λ (o : Option ℤ). old ++ spread_by o (x ∷ at) behind) is)
