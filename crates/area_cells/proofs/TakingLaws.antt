-- Cells of a chunk that are looked through, stretch by stretch.
use Rattle.std.proofs.Common.{◌≡◌, ℕ, zero, suc, ◌+◌, ◌-◌, ◌<◌, ◌≤◌, ◌⊎◌, inl, inr, ℤ, Bool, true, false, cond, ◌&&◌, List, [], ◌∷◌, ◌++◌, append-nil, append_assoc, length, get_or, drop, map, refl, sym, ap, ◌∙◌, subst, arith}
use Rattle.std.specs.List.{AllByRecursion}
use Rattle.std.specs.Ordering.{ordering_reverse}
use Rattle.std.specs.declared.cmp.Ordering.{Ordering}
use Rattle.std.specs.declared.cmp.Ordering.TheVariants.{Less, Equal, Greater}
use Rattle.std.proofs.lemmas.Bool.{cases_lt}
use Rattle.std.proofs.lemmas.List.{drop_more, drop_all}
use Rattle.cell_values.specs.declared.datum.Cell.{Cell}
use Rattle.cell_values.specs.declared.datum.Cell.TheVariants.{Full}
use Rattle.cell_values.specs.declared.datum.Row.{Row}
use Rattle.cell_values.specs.declared.schema.Bounds.{Bounds}
use Rattle.cell_values.specs.declared.schema.Dimension.{Dimension}
use Rattle.array_rows.specs.Boxes.{is_inside, within}
use Rattle.array_rows.specs.Rows.{Coordinate, IsBefore, IsRising, placed, put_all, row_major}
use Rattle.array_rows.proofs.RowsLemmas.{row_major_total, same_coordinate}
use Rattle.array_rows.proofs.RowSets.{IsRising-rows_where, rows_where-put_all}
use Rattle.array_geom.specs.declared.chunk.Chunk.{Chunk}
use Rattle.array_geom.specs.declared.grid.Grid.{Grid}
use Rattle.array_geom.specs.Chunks.{AreRising}
use Rattle.array_geom.specs.Geometry.{coordinate_in, core, frame_low, frame_lengths, volume}
use Rattle.array_geom.specs.Inner.Ranges.{AreLengths, IsGrid}
use Rattle.array_geom.specs.Link.{chunk_rows, core_rows, rows_in}
use Rattle.array_geom.proofs.TestLaws.{and_parts}
use Rattle.chunk_cells.proofs.MergeLaws.{IsRising-core_rows, put_all-none}
use Rattle.chunk_cells.proofs.OrderLaws.{coordinate_rises}
use Rattle.array_parts.specs.Made.{IsPlaced}
use Rattle.area_cells.specs.declared.finding.Found.{Found}
use Rattle.area_cells.specs.declared.stretches.Stretch.{Stretch}
use Rattle.area_cells.specs.Found.{AreFound, IsFound, found_row, found_rows}
use Rattle.area_cells.specs.Inner.Stretches.{IsStretch, in_both, place_of}
use Rattle.area_cells.specs.Inner.Taking.{IsTaken, rows_left}
use Rattle.area_cells.proofs.CutLaws.{core_rows-append}
use Rattle.area_cells.proofs.FoundLaws.{all_append, rows_append}

-- ---- places that rise

above_at : (x : ℕ) (xs : List ℕ) (j : ℕ) → AllByRecursion (λ later. x < later) xs → j < length xs → x < get_or xs j 0
above_at x [] j a l = absurd (omega (arith, l))
above_at x (y ∷ xs) zero a l = a.0
above_at x (y ∷ xs) (suc j) a l = above_at x xs j a.1 (omega (arith, l))

pub rising_at : (xs : List ℕ) (i j : ℕ) → AreRising xs → i ≤ j → j < length xs → get_or xs i 0 ≤ get_or xs j 0
rising_at [] i j r h l = absurd (omega (arith, l))
rising_at (x ∷ xs) zero zero r h l = omega arith
rising_at (x ∷ xs) zero (suc j) r h l = let less = above_at x xs j r.0 (omega (arith, l)) in omega (arith, less)
rising_at (x ∷ xs) (suc i) zero r h l = absurd (omega (arith, h))
rising_at (x ∷ xs) (suc i) (suc j) r h l = rising_at xs i j r.1 (omega (arith, h)) (omega (arith, l))

pub place_below : (n : ℕ) (xs : List ℕ) (i : ℕ) → AllByRecursion (λ p. p < n) xs → i < length xs → get_or xs i 0 < n
place_below n [] i a l = absurd (omega (arith, l))
place_below n (x ∷ xs) zero a l = a.0
place_below n (x ∷ xs) (suc i) a l = place_below n xs i a.1 (omega (arith, l))

not_greater : Less ≡ Greater → ⊥
not_greater e = cc

not_equal : Less ≡ Equal → ⊥
not_equal e = cc

earlier : (low : List ℤ) (lengths : List ℕ) (p q : ℕ) → AreLengths lengths → length low ≡ length lengths → p < volume lengths → q < volume lengths → row_major (coordinate_in low lengths p) (coordinate_in low lengths q) ≡ Less → p < q
earlier low lengths p q a e hp hq less = one (cases_lt p q)
  where
    c : Coordinate
    c = coordinate_in low lengths p

    d : Coordinate
    d = coordinate_in low lengths q

    other : (q < p) ⊎ (p ≤ q) → q ≤ p → p < q
    other (inl h) k = absurd (not_greater (sym less ∙ row_major_total.antisymm c d ∙ ap ordering_reverse (coordinate_rises low lengths q p a e h hp)))
    other (inr h) k =
        let same : p ≡ q = omega (arith, h, k) in
        absurd (not_equal (sym less ∙ ap (λ (n : ℕ). row_major c (coordinate_in low lengths n)) (sym same) ∙ same_coordinate c))

    one : (p < q) ⊎ (q ≤ p) → p < q
    one (inl h) = h
    one (inr h) = other (cases_lt q p) h

pub rising_places : (low : List ℤ) (lengths : List ℕ) (ps : List ℕ) (cs : List Cell) → AreLengths lengths → length low ≡ length lengths → length cs ≡ length ps → AllByRecursion (λ p. p < volume lengths) ps → IsRising (rows_in low lengths ps cs) → AreRising ps
rising_places low lengths [] cs a e l b r = tt
rising_places low lengths (p ∷ ps) [] a e l b r = absurd (omega (arith, l))
rising_places low lengths (p ∷ ps) (c ∷ cs) a e l b r = (each ps cs (omega (arith, l)) b.1 r.0, rising_places low lengths ps cs a e (omega (arith, l)) b.1 r.1)
  where
    each : (qs : List ℕ) (ds : List Cell) → length ds ≡ length qs → AllByRecursion (λ q. q < volume lengths) qs → IsBefore (coordinate_in low lengths p) (rows_in low lengths qs ds) → AllByRecursion (λ later. p < later) qs
    each [] ds m f g = tt
    each (q ∷ qs) [] m f g = absurd (omega (arith, m))
    each (q ∷ qs) (d ∷ ds) m f g = (earlier low lengths p q a e b.0 f.0 g.0, each qs ds (omega (arith, m)) f.1 g.1)

-- ---- the next cell

stays : (core area : Bounds) (c : Coordinate) (cell : Cell) (rest : List Row) → is_inside core c ≡ true → is_inside area c ≡ true → within area (within core (placed c cell ∷ rest)) ≡ placed c cell ∷ within area (within core rest)
stays core area c cell rest e f =
    ap (λ (t : Bool). within area (cond t (placed c cell ∷ within core rest) (within core rest))) e
    ∙ ap (λ (t : Bool). cond t (placed c cell ∷ within area (within core rest)) (within area (within core rest))) f

goes : (core area : Bounds) (c : Coordinate) (cell : Cell) (rest : List Row) → (is_inside core c && is_inside area c) ≡ false → within area (within core (placed c cell ∷ rest)) ≡ within area (within core rest)
goes core area c cell rest e = cases (is_inside core c) refl e
  where
    cases : (t : Bool) → is_inside core c ≡ t → (t && is_inside area c) ≡ false → within area (cond t (placed c cell ∷ within core rest) (within core rest)) ≡ within area (within core rest)
    cases true h f = ap (λ (t : Bool). cond t (placed c cell ∷ within area (within core rest)) (within area (within core rest))) f
    cases false h f = refl

next_left : (source : Grid) (core area : Bounds) (places : List ℕ) (cells : List Cell) (t : ℕ) → t < length places → length cells ≡ length places
    → rows_left source core area places cells t ≡ within area (within core (placed (place_of source (get_or places t 0)) (get_or cells t (Full [])) ∷ rows_in source.low.items source.lengths.items (drop (t + 1) places) (drop (t + 1) cells)))
next_left source core area places cells t l e =
    ap (λ (ps : List ℕ). within area (within core (rows_in source.low.items source.lengths.items ps (drop t cells)))) (drop_more places t 0 l)
    ∙ ap (λ (cs : List Cell). within area (within core (rows_in source.low.items source.lengths.items (get_or places t 0 ∷ drop (t + 1) places) cs))) (drop_more cells t (Full []) (omega (arith, l, e)))

pub one_inside : (source target : Grid) (core area : Bounds) (places : List ℕ) (cells : List Cell) (found found' : List Found) (t : ℕ) (f : Found) → t < length places → length cells ≡ length places
    → in_both source core area (get_or places t 0) ≡ true → found_row target f ≡ placed (place_of source (get_or places t 0)) (get_or cells t (Full [])) → IsFound target f → found' ≡ found ++ f ∷ []
    → IsTaken source target core area places cells found t → IsTaken source target core area places cells found' (t + 1)
one_inside source target core area places cells found found' t f l e inside row is new taken =
    let c = place_of source (get_or places t 0) in
    let both = and_parts (is_inside core c) (is_inside area c) inside in
    record {
      each = subst (AllByRecursion (IsFound target)) (sym new) (all_append target found (f ∷ []) taken.each (is, tt));
      rows_are =
          ap (λ (fs : List Found). found_rows target fs ++ rows_left source core area places cells (t + 1)) new
          ∙ ap (λ (rs : List Row). rs ++ rows_left source core area places cells (t + 1)) (rows_append target found (f ∷ []))
          ∙ append_assoc (found_rows target found) (found_row target f ∷ []) (rows_left source core area places cells (t + 1))
          ∙ ap (λ (r : Row). found_rows target found ++ r ∷ rows_left source core area places cells (t + 1)) row
          ∙ ap (λ (rs : List Row). found_rows target found ++ rs)
          (sym (next_left source core area places cells t l e ∙ stays core area c (get_or cells t (Full [])) (rows_in source.low.items source.lengths.items (drop (t + 1) places) (drop (t + 1) cells)) both.0 both.1))
          ∙ taken.rows_are;
    }

one_outside : (source target : Grid) (core area : Bounds) (places : List ℕ) (cells : List Cell) (found : List Found) (t : ℕ) → t < length places → length cells ≡ length places
    → in_both source core area (get_or places t 0) ≡ false → IsTaken source target core area places cells found t → IsTaken source target core area places cells found (t + 1)
one_outside source target core area places cells found t l e outside taken = record {
  each = taken.each;
  rows_are =
      ap (λ (rs : List Row). found_rows target found ++ rs)
      (sym (next_left source core area places cells t l e
      ∙ goes core area (place_of source (get_or places t 0)) (get_or cells t (Full [])) (rows_in source.low.items source.lengths.items (drop (t + 1) places) (drop (t + 1) cells)) outside))
      ∙ taken.rows_are;
}

-- ---- a stretch

-- the place of an index of a stretch
pub in_stretch : (places : List ℕ) (low high from t end : ℕ) → AreRising places → from ≤ t → t < end → end ≤ length places → low ≤ get_or places from 0 → get_or places (end - 1) 0 ≤ high → (low ≤ get_or places t 0) × (get_or places t 0 ≤ high)
in_stretch places low high from t end r h k l f g =
    let first = rising_at places from t r h (omega (arith, k, l)) in
    let last = rising_at places t (end - 1) r (omega (arith, k)) (omega (arith, k, l)) in
    (omega (arith, f, first), omega (arith, g, last))

begin : (n : ℕ) → n ≡ n + 0
begin n = omega arith

one_on : (m n : ℕ) → m + n + 1 ≡ m + suc n
one_on m n = omega arith

pub passed : (source target : Grid) (core area : Bounds) (places : List ℕ) (cells : List Cell) (found : List Found) (stretch : Stretch) (from end : ℕ) → IsStretch source target core area stretch → stretch.inside ≡ false → AreRising places → length cells ≡ length places
    → from < end → end ≤ length places → stretch.from ≤ get_or places from 0 → get_or places (end - 1) 0 ≤ stretch.last → IsTaken source target core area places cells found from → IsTaken source target core area places cells found end
passed source target core area places cells found stretch from end is out r e some l f g taken =
    subst (IsTaken source target core area places cells found) (omega (arith, some)) (each (end - from) (omega (arith, some)))
  where
    each : (n : ℕ) → n ≤ end - from → IsTaken source target core area places cells found (from + n)
    each zero h = subst (IsTaken source target core area places cells found) (begin from) taken
    each (suc n) h =
        let inside = in_stretch places stretch.from stretch.last from (from + n) end r (omega arith) (omega (arith, h, some)) l f g in
        subst (IsTaken source target core area places cells found) (one_on from n)
        (one_outside source target core area places cells found (from + n) (omega (arith, h, some, l)) e (is.sides (get_or places (from + n) 0) inside.0 inside.1 ∙ out) (each n (omega (arith, h))))

-- ---- a chunk

pub taken_begins : (source target : Grid) (core area : Bounds) (places : List ℕ) (cells : List Cell) (found : List Found) → found ≡ [] → IsTaken source target core area places cells found 0
taken_begins source target core area places cells found e = record {
  each = subst (AllByRecursion (IsFound target)) (sym e) tt;
  rows_are = ap (λ (fs : List Found). found_rows target fs ++ rows_left source core area places cells 0) e;
}

pub all_taken : (dims : List Dimension) (margins : List ℕ) (chunk : Chunk) (source target : Grid) (box area : Bounds) (places : List ℕ) (cells : List Cell) (found : List Found) (at : ℕ)
    → source.low.items ≡ frame_low dims margins chunk.at.items → source.lengths.items ≡ frame_lengths dims margins → box ≡ core dims chunk.at.items → places ≡ chunk.positions → cells ≡ chunk.cells → length places ≤ at
    → IsRising (chunk_rows dims margins chunk) → IsTaken source target box area places cells found at → AreFound target (within area (core_rows dims margins (chunk ∷ []))) found
all_taken dims margins chunk source target box area places cells found at e f b p c l rise taken =
    let own = within (core dims chunk.at.items) (chunk_rows dims margins chunk) in
    record {
      each = taken.each;
      rows_are =
          sym (append-nil (found_rows target found))
          ∙ ap (λ (rs : List Row). found_rows target found ++ within area (within box rs)) (sym (ap (λ (ps : List ℕ). rows_in source.low.items source.lengths.items ps (drop at cells)) (drop_all at places l)))
          ∙ taken.rows_are
          ∙ (λ i. within area (within (b i) (rows_in (e i) (f i) (p i) (c i))))
          ∙ ap (within area) (sym (put_all-none own (IsRising-rows_where (is_inside (core dims chunk.at.items)) (chunk_rows dims margins chunk) rise)));
    }

-- ---- many chunks

pub none_found : (target : Grid) (found : List Found) (rows : List Row) → found ≡ [] → rows ≡ [] → AreFound target rows found
none_found target found rows e f = record { each = subst (AllByRecursion (IsFound target)) (sym e) tt; rows_are = ap (found_rows target) e ∙ sym f }

pub found_rise : (dims : List Dimension) (margins : List ℕ) (area : Bounds) (chunks : List Chunk) (target : Grid) (found : List Found) → AreFound target (within area (core_rows dims margins chunks)) found → IsRising (found_rows target found)
found_rise dims margins area chunks target found is = subst IsRising (sym is.rows_are) (IsRising-rows_where (is_inside area) (core_rows dims margins chunks) (IsRising-core_rows dims margins chunks))

pub both_found : (dims : List Dimension) (margins : List ℕ) (area : Bounds) (chunks front back : List Chunk) (target : Grid) (left right made : List Found) → chunks ≡ front ++ back
    → AreFound target (within area (core_rows dims margins front)) left → AreFound target (within area (core_rows dims margins back)) right → AreFound target (put_all (found_rows target left) (found_rows target right)) made
    → AreFound target (within area (core_rows dims margins chunks)) made
both_found dims margins area chunks front back target left right made e f g m = record {
  each = m.each;
  rows_are =
      m.rows_are
      ∙ (λ i. put_all (f.rows_are i) (g.rows_are i))
      ∙ sym (rows_where-put_all (is_inside area) (core_rows dims margins front) (core_rows dims margins back) (IsRising-core_rows dims margins back))
      ∙ ap (within area) (sym (core_rows-append dims margins front back) ∙ ap (core_rows dims margins) (sym e));
}

pub one_chunk : (dims : List Dimension) (margins : List ℕ) (area : Bounds) (chunks : List Chunk) (chunk : Chunk) (target : Grid) (found : List Found) → chunk ∷ [] ≡ chunks → AreFound target (within area (core_rows dims margins (chunk ∷ []))) found → AreFound target (within area (core_rows dims margins chunks)) found
one_chunk dims margins area chunks chunk target found e is = subst (λ (cs : List Chunk). AreFound target (within area (core_rows dims margins cs)) found) e is

-- the places of a chunk
pub record ArePlaces (grid : Grid) (places : List ℕ) : Type 0 where
  pub rising : AreRising places
  pub inside : AllByRecursion (λ p. p < volume grid.lengths.items) places

pub chunk_places : (dims : List Dimension) (margins : List ℕ) (chunk : Chunk) (source : Grid) (places : List ℕ) → IsGrid source → source.low.items ≡ frame_low dims margins chunk.at.items → source.lengths.items ≡ frame_lengths dims margins → places ≡ chunk.positions
    → IsPlaced dims margins chunk → IsRising (chunk_rows dims margins chunk) → ArePlaces source places
chunk_places dims margins chunk source places grid e f p placed rise =
    let rows : rows_in source.low.items source.lengths.items places chunk.cells ≡ chunk_rows dims margins chunk = λ i. rows_in (e i) (f i) (p i) chunk.cells in
    let below : AllByRecursion (λ q. q < volume source.lengths.items) places =
    subst (λ (ps : List ℕ). AllByRecursion (λ q. q < volume source.lengths.items) ps) (sym p) (subst (λ (ns : List ℕ). AllByRecursion (λ q. q < volume ns) chunk.positions) (sym f) placed.in_frame) in
    record { rising = rising_places source.low.items source.lengths.items places chunk.cells grid.lengths grid.each (placed.each ∙ sym (ap length p)) below (subst IsRising (sym rows) rise); inside = below }
