-- The chunks whose core has a place are those whose core has a cell of a `build`.
use Rattle.std.proofs.Common.{◌≡◌, ℕ, zero, suc, ◌+◌, ◌*◌, ◌/◌, ◌<◌, ◌≤◌, ℤ, pos, ◌+ℤ◌, ◌-ℤ◌, ◌≤ℤ◌, Bool, true, false, cond, List, [], ◌∷◌, ◌++◌, map, length, refl, sym, ap, ◌∙◌, arith}
use Rattle.std.specs.Prelude.{int_le, unsigned_abs}
use Rattle.std.specs.Int.{int_min, int_max}
use Rattle.std.specs.List.{AllByRecursion, flat_map}
use Rattle.std.proofs.lemmas.Int.{ints, clamps}
use Rattle.cell_values.specs.declared.datum.Row.{Row}
use Rattle.cell_values.specs.declared.schema.Dimension.{Dimension}
use Rattle.cell_values.specs.declared.schema.Schema.{Schema}
use Rattle.array_rows.specs.Rows.{Coordinate}
use Rattle.array_rows.specs.Boxes.{by_pairs, is_inside, bounds_of, within}
use Rattle.array_geom.specs.Geometry.{ChunkNumber, chunk_of, core, first_in, has_core, last_in}
use Rattle.array_geom.specs.Link.{has_cell, is_listed, is_not_empty}
use Rattle.array_geom.specs.Inner.Ranges.{AreNear}
use Rattle.array_geom.proofs.CoreLaws.{core_of, chunk_has_core, up_to_the_end}
use Rattle.array_geom.proofs.TestLaws.{and_parts, and_both, le_test, le_from_test}
use Rattle.expr_nulls.specs.Expr.{Expr}
use Rattle.logical_plan.specs.Meaning.{built_rows, count_from, how_many}
use Rattle.exec_cellwise.specs.Inner.Rows.{built_row}
use Rattle.exec_cellwise.specs.Inner.Walks.{coordinates_between, numbers_to, below}
use Rattle.exec_cellwise.proofs.CutLaws.{cut_box}
use Rattle.exec_cellwise.proofs.RowLaws.{built_between, rows_filter}
use Rattle.exec_cellwise.proofs.NumberLists.{all_product, all_to, listed_step}

-- ---- numbers up to the last one

abbrev last_number : Dimension → ℕ
last_number d = unsigned_abs (d.hi -ℤ d.lo) / d.chunk

abbrev pub last_numbers : List Dimension → ChunkNumber
last_numbers dims = chunk_of dims (map (λ d. d.hi) dims)

pub all_have_cores : (dims : List Dimension) → AreNear dims → AllByRecursion (λ k. has_core dims k ≡ true) (numbers_to (last_numbers dims))
all_have_cores [] near = (refl, tt)
all_have_cores (d ∷ dims) near =
    all_product (λ k. has_core (d ∷ dims) k ≡ true) (λ x. x ≤ last_number d) (λ k. has_core dims k ≡ true) (numbers_to (last_numbers dims)) (below (last_number d + 1)) (all_to (last_number d)) (all_have_cores dims near.1)
    (λ x k l e. and_both _ _ (le_test (first_in d x) d.hi (up_to_the_end d x near.0.some near.0.order l)) e)

by_division : (s x c : ℕ) → 0 < c → x * c ≤ s → x ≤ s / c
by_division s x c p h = grind arith

not_past : (d : Dimension) (x : ℕ) → 0 < d.chunk → d.lo ≤ℤ d.hi → first_in d x ≤ℤ d.hi → x ≤ last_number d
not_past d x some order h = by_division (unsigned_abs (d.hi -ℤ d.lo)) x d.chunk some (steps d.lo d.hi (x * d.chunk) h)
  where
    steps : (lo hi : ℤ) (n : ℕ) → (lo +ℤ pos n) ≤ℤ hi → n ≤ unsigned_abs (hi -ℤ lo)
    steps lo hi n h = omega (arith, ints)

pub listed_core : (dims : List Dimension) (k : ChunkNumber) → AreNear dims → has_core dims k ≡ true → is_listed k (numbers_to (last_numbers dims)) ≡ true
listed_core [] [] near e = refl
listed_core [] (x ∷ k) near e = cc
listed_core (d ∷ dims) [] near e = cc
listed_core (d ∷ dims) (x ∷ k) near e =
    let t = and_parts (int_le (first_in d x) d.hi) (has_core dims k) e in
    listed_step x k (last_number d) (last_numbers dims) (not_past d x near.0.some near.0.order (le_from_test (first_in d x) d.hi t.0)) (listed_core dims k near.1 t.1)

-- ---- a core's first coordinate

some_append : (a b : List Coordinate) → 1 ≤ length a → 1 ≤ length (a ++ b)
some_append [] b h = absurd (omega (arith, h))
some_append (x ∷ a) b h = omega arith

some_map : (x : ℤ) (cs : List Coordinate) → 1 ≤ length cs → 1 ≤ length (map (λ c. x ∷ c) cs)
some_map x [] h = h
some_map x (c ∷ cs) h = omega arith

some_between : (l h : ℤ) (cs : List Coordinate) → l ≤ℤ h → 1 ≤ length cs → 1 ≤ length (flat_map (λ x. map (λ c. x ∷ c) cs) (count_from l (how_many l h)))
some_between l h cs order some = cases (int_le l h) (le_test l h order)
  where
    cases : (t : Bool) → t ≡ true → 1 ≤ length (flat_map (λ x. map (λ c. x ∷ c) cs) (count_from l (cond t (unsigned_abs (h -ℤ l) + 1) 0)))
    cases false e = absurd cc
    cases true e = first (unsigned_abs (h -ℤ l) + 1) (omega arith)
      where
        first : (n : ℕ) → 1 ≤ n → 1 ≤ length (flat_map (λ x. map (λ c. x ∷ c) cs) (count_from l n))
        first zero g = absurd (omega (arith, g))
        first (suc n) g = some_append (map (λ c. l ∷ c) cs) (flat_map (λ x. map (λ c. x ∷ c) cs) (count_from (l +ℤ pos 1) n)) (some_map l cs some)

core_some : (dims : List Dimension) (k : ChunkNumber) → AreNear dims → has_core dims k ≡ true
    → 1 ≤ length (coordinates_between (by_pairs int_max (by_pairs first_in dims k) (map (λ d. d.lo) dims)) (by_pairs int_min (by_pairs (λ d n. int_min d.hi (last_in d n)) dims k) (map (λ d. d.hi) dims)))
core_some [] [] near e = omega arith
core_some [] (x ∷ k) near e = cc
core_some (d ∷ dims) [] near e = cc
core_some (d ∷ dims) (x ∷ k) near e =
    let t = and_parts (int_le (first_in d x) d.hi) (has_core dims k) e in
    let f = le_from_test (first_in d x) d.hi t.0 in
    let g = near.0.some in
    let o = near.0.order in
    some_between (int_max (first_in d x) d.lo) (int_min (int_min d.hi (last_in d x)) d.hi) _ (omega (arith, ints, clamps)) (core_some dims k near.1 t.1)

not_empty : (row : Coordinate → Row) (cs : List Coordinate) → 1 ≤ length cs → is_not_empty (map row cs) ≡ true
not_empty row [] h = absurd (omega (arith, h))
not_empty row (c ∷ cs) h = refl

lengths_of : (dims : List Dimension) (k : ChunkNumber) → has_core dims k ≡ true → length (by_pairs first_in dims k) ≡ length dims
lengths_of [] [] e = refl
lengths_of [] (x ∷ k) e = cc
lengths_of (d ∷ dims) [] e = cc
lengths_of (d ∷ dims) (x ∷ k) e = ap suc (lengths_of dims k (and_parts (int_le (first_in d x) d.hi) (has_core dims k) e).1)

lengths_of_last : (dims : List Dimension) (k : ChunkNumber) → has_core dims k ≡ true → length (by_pairs (λ d n. int_min d.hi (last_in d n)) dims k) ≡ length dims
lengths_of_last [] [] e = refl
lengths_of_last [] (x ∷ k) e = cc
lengths_of_last (d ∷ dims) [] e = cc
lengths_of_last (d ∷ dims) (x ∷ k) e = ap suc (lengths_of_last dims k (and_parts (int_le (first_in d x) d.hi) (has_core dims k) e).1)

pub length_map : {A B : Type 0} (f : A → B) (xs : List A) → length (map f xs) ≡ length xs
length_map f [] = refl
length_map f (x ∷ xs) = ap suc (length_map f xs)

pub core_has_cell : (schema : Schema) (e : Expr) (k : ChunkNumber) → AreNear schema.dimensions → has_core schema.dimensions k ≡ true → has_cell schema.dimensions (built_rows schema e) k ≡ true
core_has_cell schema e k near c =
    let dims = schema.dimensions in
    let row = built_row schema.attributes e in
    let area = core dims k in
    let lo = map (λ d. d.lo) dims in
    let hi = map (λ d. d.hi) dims in
    ap (λ (rows : List Row). is_not_empty (within area rows)) (built_between schema e)
    ∙ ap is_not_empty (rows_filter schema.attributes e (is_inside area) (coordinates_between lo hi))
    ∙ ap (λ (cs : List Coordinate). is_not_empty (map row cs)) (cut_box area.lo.items area.hi.items lo hi (lengths_of dims k c ∙ sym (length_map (λ d. d.lo) dims)) (lengths_of_last dims k c ∙ sym (length_map (λ d. d.lo) dims)) (length_map (λ d. d.hi) dims ∙ sym (length_map (λ d. d.lo) dims)))
    ∙ not_empty row _ (core_some dims k near c)

-- a core with a cell has a place
pub core_of_cell : (dims : List Dimension) (k : ChunkNumber) (rows : List Row) → AreNear dims → length k ≡ length dims → AllByRecursion (λ row. is_inside (bounds_of dims) row.at.items ≡ true) rows → has_cell dims rows k ≡ true → has_core dims k ≡ true
core_of_cell dims k [] near l a e = cc
core_of_cell dims k (row ∷ rows) near l a e = cases (is_inside (core dims k) row.at.items) refl e (core_of_cell dims k rows near l a.1)
  where
    cases : (t : Bool) → is_inside (core dims k) row.at.items ≡ t → is_not_empty (cond t (row ∷ within (core dims k) rows) (within (core dims k) rows)) ≡ true → (has_cell dims rows k ≡ true → has_core dims k ≡ true) → has_core dims k ≡ true
    cases true f g more = ap (has_core dims) (core_of dims k row.at.items near l f) ∙ chunk_has_core dims row.at.items a.0
    cases false f g more = more g
