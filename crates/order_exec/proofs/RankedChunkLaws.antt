-- Chunks whose cells are ranked from their columns, as parts of a ranked array.
use Rattle.std.proofs.Common.{◌≡◌, ℕ, zero, suc, ◌+◌, ◌<◌, ◌≤◌, ◌==◌, ◌^◌, ℤ, pos, not, Bool, true, false, cond, IsTrue, List, [], ◌∷◌, ◌++◌, append_assoc, map, filter, length, get_or, drop, take, replicate, Option, Some, None, refl, sym, ap, ◌∙◌, subst, arith}
use Rattle.std.proofs.lemmas.List.{append-nil, get_or-replicate, length-map, length-replicate, map-append, take_all, take_more}
use Rattle.std.proofs.lemmas.List.Elements.{filter-append}
use Rattle.std.specs.Prelude.{IfSome}
use Rattle.std.specs.List.{AllByRecursion, AllZip}
use Rattle.std.specs.Option.{option_or}
use Rattle.std.specs.Ordering.{is_eq, is_lt}
use Rattle.arrayvec.specs.ArrayVec.{ArrayVec}
use Rattle.cell_values.specs.declared.datum.Cell.{Cell}
use Rattle.cell_values.specs.declared.datum.Cell.TheVariants.{Full, Doubt}
use Rattle.cell_values.specs.declared.datum.Datum.{Datum}
use Rattle.cell_values.specs.declared.datum.Datum.TheVariants.{Int, Null}
use Rattle.cell_values.specs.declared.datum.FaultKind.{FaultKind}
use Rattle.cell_values.specs.declared.datum.Row.{Row}
use Rattle.cell_values.specs.declared.schema.Dimension.{Dimension}
use Rattle.cell_values.specs.declared.schema.Schema.{Schema}
use Rattle.cell_values.specs.Nulls.{is_null}
use Rattle.array_rows.specs.Arrays.{AreRowsOf}
use Rattle.array_rows.specs.Boxes.{by_pairs, within}
use Rattle.array_rows.specs.Cellwise.{cell_wise, put_first}
use Rattle.array_rows.specs.Inner.CellsIn.{value_in}
use Rattle.array_rows.specs.Rows.{Coordinate, placed, row_major}
use Rattle.array_rows.specs.RowsIn.{rows_in as column_rows}
use Rattle.array_rows.proofs.RowsLemmas.{within-cell_wise}
use Rattle.array_geom.specs.declared.chunk.Chunk.{Chunk}
use Rattle.array_geom.specs.declared.grid.Grid.{Grid}
use Rattle.array_geom.specs.Geometry.{ChunkNumber, coordinate_in, frame, frame_lengths, frame_low, has_core, volume}
use Rattle.array_geom.specs.Inner.Ranges.{IsGrid}
use Rattle.array_geom.specs.Link.{IsPart, NumbersRise, chunk_rows, core_rows, numbers, rows_in}
use Rattle.array_geom.proofs.NearLemmas.{valid_placed}
use Rattle.array_parts.specs.Cores.{HaveCells}
use Rattle.array_parts.specs.Made.{IsPlaced}
use Rattle.array_parts.specs.Parts.{AreParts}
use Rattle.array_parts.specs.Placed.{HasPlaces, HavePlaces}
use Rattle.array_parts.proofs.PartLemmas.{all_kept}
use Rattle.area_cells.specs.Margins.{no_margins}
use Rattle.area_cells.proofs.CountLaws.{IsCounted}
use Rattle.area_cells.proofs.ListedLaws.{core_listed}
use Rattle.area_cells.proofs.PieceLaws.{changed_parts}
use Rattle.chunk_cells.specs.Frames.{HasFrames}
use Rattle.group_rows.specs.Inner.Places.{place_of}
use Rattle.group_rows.proofs.ColumnLaws.{is_value}
use Rattle.group_rows.proofs.RowLemmas.{all_right}
use Rattle.group_rows.proofs.StateLaws.{zip_push}
use Rattle.logical_plan.specs.declared.parts.AggFunction.TheVariants.{Count}
use Rattle.logical_plan.specs.BoxOps.{numbers_at}
use Rattle.logical_plan.specs.Groups.{attribute_of, bad_kind, cells_of, datum_cmp, fault_for, first_some, group_at, number_of, unless, values_of}
use Rattle.logical_plan.specs.Ordered.{agreeing, below, rank_among, rank_cell, rank_rows, sorted_by}
use Rattle.order_exec.specs.Inner.ByChunk.{by_chunk, rows_of_core}
use Rattle.order_exec.specs.Inner.Counted.{number_before}
use Rattle.order_exec.specs.Inner.GroupNumbers.{TakesNumbers, number_rank, numbers_there, ranks_in}
use Rattle.order_exec.specs.Inner.GroupPlaces.{HasGroup, HaveGroups}
use Rattle.order_exec.specs.Inner.RankedChunks.{AreTaken, CountNumbers, HasNumber, HoldNumbers, IsRanked, frame_grid, number_at, numbers_with, ranked_number, rows_of_chunks}
use Rattle.order_exec.proofs.AlongLaws.{all_joined}
use Rattle.order_exec.proofs.ByChunkLaws.{AreOf, own_frame, places_framed}
use Rattle.order_exec.proofs.GroupNumberLaws.{below_of_sorted, rising_sorted}
use Rattle.order_exec.proofs.GroupOrderLaws.{count_sorted}
use Rattle.order_exec.proofs.GroupPlaceLaws.{as_many_groups, same_test}
use Rattle.order_exec.proofs.TurnSortLaws.{core_alone, turn_all, turn_sorted}

-- ---- how many numbers of a group are less, in whatever order the rows stand

module _ (x : ℕ) (dims : List ℕ) (q : Coordinate) (n : ℤ) where
  abbrev is_there : Row → Bool
  is_there row = is_eq (row_major (numbers_at dims row.at.items) q)

  abbrev is_less : ℤ → Bool
  is_less m = is_lt (datum_cmp (Int m) (Int n))

  abbrev pub count_there : List Row → ℕ
  count_there rows = below (Int n) (map Int (numbers_with x dims q rows))

  abbrev mark : Row → ℤ
  mark row = cond (is_there row) (cond (is_less (number_at x row)) (pos 1) (pos 0)) (pos 0)

  abbrev is_marked : ℤ → Bool
  is_marked m = number_before (pos 0) m

  count_cons : (row : Row) (rows : List Row) → count_there (row ∷ rows) ≡ cond (is_there row) (cond (is_less (number_at x row)) (suc (count_there rows)) (count_there rows)) (count_there rows)
  count_cons row rows = cases (is_there row)
    where
      inner : (d : Bool) (ws : List Datum) → length (cond d (Int (number_at x row) ∷ ws) ws) ≡ cond d (suc (length ws)) (length ws)
      inner true ws = refl
      inner false ws = refl

      cases : (b : Bool) → below (Int n) (map Int (map (number_at x) (cond b (row ∷ group_at (numbers_at dims) q rows) (group_at (numbers_at dims) q rows))))
          ≡ cond b (cond (is_less (number_at x row)) (suc (count_there rows)) (count_there rows)) (count_there rows)
      cases true = inner (is_less (number_at x row)) (filter (λ w. is_lt (datum_cmp w (Int n))) (map Int (numbers_with x dims q rows)))
      cases false = refl

  marked_cons : (row : Row) (ms : List ℤ) → length (filter is_marked (mark row ∷ ms)) ≡ cond (is_there row) (cond (is_less (number_at x row)) (suc (length (filter is_marked ms))) (length (filter is_marked ms))) (length (filter is_marked ms))
  marked_cons row ms = cases (is_there row) (is_less (number_at x row)) (mark row)
    where
      cases : (b d : Bool) (m : ℤ) → length (cond (is_marked (cond b (cond d (pos 1) (pos 0)) (pos 0))) (m ∷ filter is_marked ms) (filter is_marked ms))
          ≡ cond b (cond d (suc (length (filter is_marked ms))) (length (filter is_marked ms))) (length (filter is_marked ms))
      cases true true m = refl
      cases true false m = refl
      cases false d m = refl

  marked : (rows : List Row) → length (filter is_marked (map mark rows)) ≡ count_there rows
  marked [] = refl
  marked (row ∷ rows) =
      marked_cons row (map mark rows) ∙ ap (λ (k : ℕ). cond (is_there row) (cond (is_less (number_at x row)) (suc k) k) k) (marked rows) ∙ sym (count_cons row rows)

  pub count_turned : (schema : Schema) (margins : List ℕ) (chunks : List Chunk) → HaveCells schema margins chunks → count_there (core_rows schema.dimensions margins chunks) ≡ count_there (by_chunk schema.dimensions margins chunks)
  count_turned schema margins chunks have =
      let all = core_rows schema.dimensions margins chunks in
      let turn = by_chunk schema.dimensions margins chunks in
      sym (marked all) ∙ sym (count_sorted is_marked number_before (map mark all))
      ∙ ap (λ (ms : List ℤ). length (filter is_marked ms)) (turn_sorted schema margins mark chunks have.placed.valid have.placed.sized have.rows_of have.placed.rising)
      ∙ count_sorted is_marked number_before (map mark turn) ∙ marked turn

-- ---- rows whose values are numbers

module _ (x : ℕ) where
  number_is : (row : Row) (n : ℤ) → value_in x row.cell ≡ Int n → HasNumber x row × (number_at x row ≡ n)
  number_is row n e =
      let value : attribute_of x row.cell ≡ Int n = is_value x row.cell n e in
      (value ∙ ap (λ (v : Datum). Int (number_of v)) (sym value), ap number_of value)

  values_are : (rows : List Row) → AllByRecursion (HasNumber x) rows → values_of x (cells_of rows) ≡ map Int (map (number_at x) rows)
  values_are [] h = refl
  values_are (row ∷ rows) h =
      ap (λ (v : Datum). cond (not (is_null v)) (v ∷ values_of x (cells_of rows)) (values_of x (cells_of rows))) h.0
      ∙ ap (λ (vs : List Datum). Int (number_at x row) ∷ vs) (values_are rows h.1)

  no_fault : (cell : Cell) (n : ℤ) → attribute_of x cell ≡ Int n → fault_for Count x cell ≡ None
  no_fault (Full vs) n e = ap bad_kind e
  no_fault (Doubt kind) n e = cc (e)

  no_faults : (rows : List Row) → AllByRecursion (HasNumber x) rows → first_some (fault_for Count x) (cells_of rows) ≡ None
  no_faults [] h = refl
  no_faults (row ∷ rows) h = ap (λ (o : Option FaultKind). option_or o (first_some (fault_for Count x) (cells_of rows))) (no_fault row.cell (number_at x row) h.0) ∙ no_faults rows h.1

-- ---- the numbers of a chunk

module _ (x : ℕ) (dims : List ℕ) (grid : Grid) (is : IsGrid grid) (low : List ℤ) (lengths : List ℕ) where
  abbrev Have : List ℕ → List ℕ → Type 0
  Have positions places = AllZip (λ p place. HasGroup dims grid (coordinate_in low lengths p) place) positions places

  abbrev row_of : ℕ → Cell → Row
  row_of p cell = placed (coordinate_in low lengths p) cell

  first_value : (cell : Cell) (cells : List Cell) (n : ℤ) (ns : List ℤ) → map (value_in x) (cell ∷ cells) ≡ map Int (n ∷ ns) → (value_in x cell ≡ Int n) × (map (value_in x) cells ≡ map Int ns)
  first_value cell cells n ns e = (ap (λ (vs : List Datum). get_or vs 0 Null) e, ap (λ (vs : List Datum). drop 1 vs) e)

  -- the numbers whose group has a place
  numbers_are_there : (p : ℕ) → p < volume grid.lengths.items → (positions : List ℕ) (cells : List Cell) (places : List ℕ) (ns : List ℤ) → length cells ≡ length positions → Have positions places → map (value_in x) cells ≡ map Int ns
      → numbers_there p places ns ≡ numbers_with x dims (place_of grid p) (rows_in low lengths positions cells)
  numbers_are_there p l [] cells [] ns same h e = refl
  numbers_are_there p l [] cells (t ∷ places) ns same h e = absurd h
  numbers_are_there p l (s ∷ positions) cells [] ns same h e = absurd h
  numbers_are_there p l (s ∷ positions) [] (t ∷ places) ns same h e = absurd (omega (arith, same))
  numbers_are_there p l (s ∷ positions) (cell ∷ cells) (t ∷ places) [] same h e = absurd (let m = ap length e in omega (arith, m))
  numbers_are_there p l (s ∷ positions) (cell ∷ cells) (t ∷ places) (n ∷ ns) same h e =
      let values = first_value cell cells n ns e in
      let number = number_is x (row_of s cell) n values.0 in
      let rest = numbers_are_there p l positions cells places ns (omega (arith, same)) h.1 values.1 in
      let test : is_eq (row_major (numbers_at dims (coordinate_in low lengths s)) (place_of grid p)) ≡ (t == p) =
      ap (λ (c : Coordinate). is_eq (row_major c (place_of grid p))) (sym h.0.there) ∙ same_test grid t p is h.0.below l in
      (λ i. cond (t == p) (sym number.1 i ∷ rest i) (rest i))
      ∙ cases (t == p) (rows_in low lengths positions cells)
      ∙ ap (λ (b : Bool). map (number_at x) (cond b (row_of s cell ∷ group_at (numbers_at dims) (place_of grid p) (rows_in low lengths positions cells)) (group_at (numbers_at dims) (place_of grid p) (rows_in low lengths positions cells)))) (sym test)
    where
      cases : (b : Bool) (rows : List Row) → cond b (number_at x (row_of s cell) ∷ numbers_with x dims (place_of grid p) rows) (numbers_with x dims (place_of grid p) rows)
          ≡ map (number_at x) (cond b (row_of s cell ∷ group_at (numbers_at dims) (place_of grid p) rows) (group_at (numbers_at dims) (place_of grid p) rows))
      cases true rows = refl
      cases false rows = refl

  all_numbers : (positions : List ℕ) (cells : List Cell) (ns : List ℤ) → map (value_in x) cells ≡ map Int ns → AllByRecursion (HasNumber x) (rows_in low lengths positions cells)
  all_numbers [] cells ns e = tt
  all_numbers (s ∷ positions) [] ns e = tt
  all_numbers (s ∷ positions) (cell ∷ cells) [] e = absurd (let m = ap length e in omega (arith, m))
  all_numbers (s ∷ positions) (cell ∷ cells) (n ∷ ns) e =
      let values = first_value cell cells n ns e in
      ((number_is x (row_of s cell) n values.0).0, all_numbers positions cells ns values.1)

  pub take_more_rows : (positions : List ℕ) (cells : List Cell) (places : List ℕ) (ns : List ℤ) (earlier : List Row) (old new : List (List ℤ)) → length cells ≡ length positions → Have positions places → map (value_in x) cells ≡ map Int ns
      → TakesNumbers places ns old new → HoldNumbers x dims grid earlier old → HoldNumbers x dims grid (earlier ++ rows_in low lengths positions cells) new
  take_more_rows positions cells places ns earlier old new same have e takes h = record {
    long = takes.long ∙ h.long;
    numbers = all_joined (HasNumber x) earlier (rows_in low lengths positions cells) h.numbers (all_numbers positions cells ns e);
    each = λ p l.
        let long = h.long in
        takes.each p (omega (arith, l, long)) ∙ (λ i. h.each p l i ++ numbers_are_there p l positions cells places ns same have e i)
        ∙ sym (map-append (number_at x) (group_at (numbers_at dims) (place_of grid p) earlier) (group_at (numbers_at dims) (place_of grid p) (rows_in low lengths positions cells)))
        ∙ ap (map (number_at x)) (sym (filter-append (λ (row : Row). is_eq (row_major (numbers_at dims row.at.items) (place_of grid p))) earlier (rows_in low lengths positions cells)));
  }

pub none_held : (x : ℕ) (dims : List ℕ) (grid : Grid) (groups : List (List ℤ)) (count : ℕ) → groups ≡ replicate count [] → count ≡ volume grid.lengths.items → HoldNumbers x dims grid [] groups
none_held x dims grid groups count e f = record {
  long = ap length e ∙ length-replicate count [] ∙ f;
  numbers = tt;
  each = λ p l. ap (λ (gs : List (List ℤ)). get_or gs p []) e ∙ get_or-replicate count p [] [] (omega (arith, l, f));
}

rows_chained : (sides : List Dimension) (margins : List ℕ) (a b : List Chunk) → rows_of_chunks sides margins (a ++ b) ≡ rows_of_chunks sides margins a ++ rows_of_chunks sides margins b
rows_chained sides margins [] b = refl
rows_chained sides margins (chunk ∷ a) b =
    ap (λ (rows : List Row). chunk_rows sides margins chunk ++ rows) (rows_chained sides margins a b)
    ∙ sym (append_assoc (chunk_rows sides margins chunk) (rows_of_chunks sides margins a) (rows_of_chunks sides margins b))

pub next_rows : (sides : List Dimension) (margins : List ℕ) (chunks : List Chunk) (k : ℕ) (chunk : Chunk) → k < length chunks → chunk ≡ get_or chunks k chunk
    → rows_of_chunks sides margins (take (k + 1) chunks) ≡ rows_of_chunks sides margins (take k chunks) ++ chunk_rows sides margins chunk
next_rows sides margins chunks k chunk l e =
    ap (rows_of_chunks sides margins) (take_more chunks k chunk l ∙ ap (λ (c : Chunk). take k chunks ++ c ∷ []) (sym e))
    ∙ rows_chained sides margins (take k chunks) (chunk ∷ [])
    ∙ ap (λ (rows : List Row). rows_of_chunks sides margins (take k chunks) ++ rows) (append-nil (chunk_rows sides margins chunk))

pub sorted_count : (x : ℕ) (dims : List ℕ) (grid : Grid) (rows : List Row) (groups : List (List ℤ)) → HoldNumbers x dims grid rows groups → CountNumbers x dims grid rows (map (sorted_by number_before) groups)
sorted_count x dims grid rows groups h = record {
  long = length-map groups (sorted_by number_before) ∙ h.long;
  numbers = h.numbers;
  rising = rising_sorted groups;
  counts = λ p l n. let long = h.long in below_of_sorted n groups p (omega (arith, l, long)) ∙ ap (λ (ns : List ℤ). below (Int n) (map Int ns)) (h.each p l);
}

-- ---- columns as rows

two_columns : (ns ranks : List ℤ) (k : ℕ) → k ≤ length ns → length ranks ≡ length ns → map Full (column_rows k (map Int ns ∷ map Int ranks ∷ [])) ≡ take k (by_pairs ranked_number ns ranks)
two_columns ns ranks zero l e = refl
two_columns ns ranks (suc k) l e =
    map-append Full (column_rows k (map Int ns ∷ map Int ranks ∷ [])) ((get_or (map Int ns) k Null ∷ get_or (map Int ranks) k Null ∷ []) ∷ [])
    ∙ (λ i. two_columns ns ranks k (omega (arith, l)) e i ++ Full (value ns (omega (arith, l)) i ∷ value ranks (omega (arith, l, e)) i ∷ []) ∷ [])
    ∙ more ns ranks k (omega (arith, l)) (omega (arith, l, e))
  where
    value : (ms : List ℤ) → k < length ms → get_or (map Int ms) k Null ≡ Int (get_or ms k (pos 0))
    value ms m = at ms k m
      where
        at : (ms : List ℤ) (j : ℕ) → j < length ms → get_or (map Int ms) j Null ≡ Int (get_or ms j (pos 0))
        at [] j m = absurd (omega (arith, m))
        at (z ∷ ms) zero m = refl
        at (z ∷ ms) (suc j) m = at ms j (omega (arith, m))

    more : (ms zs : List ℤ) (j : ℕ) → j < length ms → j < length zs → take j (by_pairs ranked_number ms zs) ++ ranked_number (get_or ms j (pos 0)) (get_or zs j (pos 0)) ∷ [] ≡ take (suc j) (by_pairs ranked_number ms zs)
    more [] zs j a b = absurd (omega (arith, a))
    more (y ∷ ms) [] j a b = absurd (omega (arith, b))
    more (y ∷ ms) (z ∷ zs) zero a b = refl
    more (y ∷ ms) (z ∷ zs) (suc j) a b = ap (λ (cs : List Cell). ranked_number y z ∷ cs) (more ms zs j (omega (arith, a)) (omega (arith, b)))

pairs_long : {A B C : Type 0} (f : A → B → C) (xs : List A) (ys : List B) → length (by_pairs f xs ys) ≤ length xs
pairs_long f [] ys = omega arith
pairs_long f (x ∷ xs) [] = omega arith
pairs_long f (x ∷ xs) (y ∷ ys) = let rest = pairs_long f xs ys in omega (arith, rest)

pub ranked_columns : (ns ranks : List ℤ) (columns : List (List Datum)) (rows : List (List Datum)) → length ranks ≡ length ns → columns ≡ map Int ns ∷ map Int ranks ∷ [] → rows ≡ column_rows (length ns) columns
    → map Full rows ≡ by_pairs ranked_number ns ranks
ranked_columns ns ranks columns rows e c r =
    ap (map Full) (r ∙ ap (column_rows (length ns)) c) ∙ two_columns ns ranks (length ns) (omega arith) e
    ∙ take_all (length ns) (by_pairs ranked_number ns ranks) (pairs_long ranked_number ns ranks)

pub columns_long : (ns ranks : List ℤ) (columns : List (List Datum)) → length ranks ≡ length ns → columns ≡ map Int ns ∷ map Int ranks ∷ [] → AllByRecursion (λ column. length column ≡ length ns) columns
columns_long ns ranks columns e c = subst (AllByRecursion (λ column. length column ≡ length ns)) (sym c) (length-map ns Int, (length-map ranks Int ∙ e, tt))

-- ---- the ranks of a chunk

module _ (x : ℕ) (dims : List ℕ) (grid : Grid) (all : List Row) (groups : List (List ℤ)) (known : AllByRecursion (HasNumber x) all)
    (counts : (p : ℕ) → p < volume grid.lengths.items → (n : ℤ) → below (Int n) (map Int (get_or groups p [])) ≡ count_there x dims (place_of grid p) n all) where
  rank_is : (c : Coordinate) (t : ℕ) (n : ℤ) → HasGroup dims grid c t → rank_among x (Int n) (cells_of (agreeing dims c all)) ≡ Int (number_rank groups t n)
  rank_is c t n h =
      let some = agreeing dims c all in
      let numbers : AllByRecursion (HasNumber x) some = all_kept (HasNumber x) (λ row. is_eq (row_major (numbers_at dims row.at.items) (numbers_at dims c))) all known in
      ap (λ (o : Option FaultKind). unless o (Int (pos (1 + below (Int n) (values_of x (cells_of some)))))) (no_faults x some numbers)
      ∙ ap (λ (k : ℕ). Int (pos (1 + k)))
      (ap (below (Int n)) (values_are x some numbers)
      ∙ ap (λ (q : Coordinate). below (Int n) (map Int (numbers_with x dims q all))) (sym h.there)
      ∙ sym (counts t h.below n))

  module _ (low : List ℤ) (lengths : List ℕ) where
    ranked_one : (c : Coordinate) (cell : Cell) (t : ℕ) (n : ℤ) → HasGroup dims grid c t → value_in x cell ≡ Int n → rank_cell x dims all c cell ≡ Some (ranked_number n (number_rank groups t n))
    ranked_one c (Doubt kind) t n h e = cc (e)
    ranked_one c (Full vs) t n h e =
        ap (λ (v : Datum). Some (Full (v ∷ rank_among x v (cells_of (agreeing dims c all)) ∷ []))) e
        ∙ ap (λ (v : Datum). Some (Full (Int n ∷ v ∷ []))) (rank_is c t n h)

    pub ranked_all : (positions : List ℕ) (cells : List Cell) (places : List ℕ) (ns : List ℤ) → length cells ≡ length positions → AllZip (λ p place. HasGroup dims grid (coordinate_in low lengths p) place) positions places
        → map (value_in x) cells ≡ map Int ns → rows_in low lengths positions (by_pairs ranked_number ns (ranks_in groups places ns)) ≡ cell_wise (rank_cell x dims all) (rows_in low lengths positions cells)
    ranked_all [] cells places ns same h e = refl
    ranked_all (s ∷ positions) cells [] ns same h e = absurd h
    ranked_all (s ∷ positions) [] (t ∷ places) ns same h e = absurd (omega (arith, same))
    ranked_all (s ∷ positions) (cell ∷ cells) (t ∷ places) [] same h e = absurd (let m = ap length e in omega (arith, m))
    ranked_all (s ∷ positions) (cell ∷ cells) (t ∷ places) (n ∷ ns) same h e =
        let one = ranked_one (coordinate_in low lengths s) cell t n h.0 (ap (λ (vs : List Datum). get_or vs 0 Null) e) in
        ap (λ (rows : List Row). placed (coordinate_in low lengths s) (ranked_number n (number_rank groups t n)) ∷ rows) (ranked_all positions cells places ns (omega (arith, same)) h.1 (ap (λ (vs : List Datum). drop 1 vs) e))
        ∙ ap (λ (o : Option Cell). put_first (coordinate_in low lengths s) o (cell_wise (rank_cell x dims all) (rows_in low lengths positions cells))) (sym one)

-- ---- the parts of a ranked array

pairs_full : {A B C : Type 0} (f : A → B → C) (xs : List A) (ys : List B) → length ys ≡ length xs → length (by_pairs f xs ys) ≡ length xs
pairs_full f [] ys e = refl
pairs_full f (x ∷ xs) [] e = absurd (omega (arith, e))
pairs_full f (x ∷ xs) (y ∷ ys) e = ap suc (pairs_full f xs ys (omega (arith, e)))

-- as many numbers as places
pub as_many_numbers : (x : ℕ) (dims : List ℕ) (grid : Grid) (sides : List Dimension) (margins : List ℕ) (chunk : Chunk) (places : List ℕ) (ns : List ℤ) → IsPlaced sides margins chunk → AreTaken x dims grid sides margins chunk places ns
    → length ns ≡ length places
as_many_numbers x dims grid sides margins chunk places ns placed t =
    sym (length-map ns Int) ∙ sym (ap length t.values) ∙ length-map chunk.cells (value_in x) ∙ placed.each
    ∙ sym (as_many_groups dims grid (frame_grid sides margins chunk) chunk.positions places t.have)

pub chunk_taken : (x : ℕ) (dims : List ℕ) (grid : Grid) (sides : List Dimension) (margins : List ℕ) (chunk : Chunk) (places : List ℕ) (ns : List ℤ) (earlier : List Row) (old new : List (List ℤ)) → IsGrid grid → IsPlaced sides margins chunk
    → AreTaken x dims grid sides margins chunk places ns → TakesNumbers places ns old new → HoldNumbers x dims grid earlier old → HoldNumbers x dims grid (earlier ++ chunk_rows sides margins chunk) new
chunk_taken x dims grid sides margins chunk places ns earlier old new is placed t takes h =
    take_more_rows x dims grid is (frame_low sides margins chunk.at.items) (frame_lengths sides margins) chunk.positions chunk.cells places ns earlier old new placed.each t.have t.values takes h

module _ (schema target : Schema) (margins none : List ℕ) (chunks : List Chunk) (have : HaveCells schema margins chunks) (same : target.dimensions ≡ schema.dimensions) (m : margins ≡ no_margins schema.dimensions) (nothing : none ≡ no_margins target.dimensions)
    (framed : HasFrames target none) (x : ℕ) (dims : List ℕ) (grid : Grid) (groups : List (List ℤ)) (counted : CountNumbers x dims grid (rows_of_chunks schema.dimensions margins chunks) groups) where
  chained : (some : List Chunk) → AllByRecursion (HasPlaces schema margins) some → AreOf schema margins some → by_chunk schema.dimensions margins some ≡ rows_of_chunks schema.dimensions margins some
  chained [] places are = refl
  chained (chunk ∷ some) places are = λ i. core_alone schema margins chunk m places.0 are.0 i ++ chained some places.1 are.1 i

  in_turn : by_chunk schema.dimensions margins chunks ≡ rows_of_chunks schema.dimensions margins chunks
  in_turn = chained chunks have.placed.all have.rows_of

  abbrev all : List Row
  all = core_rows schema.dimensions margins chunks

  known : AllByRecursion (HasNumber x) all
  known = turn_all schema margins (HasNumber x) chunks (subst (AllByRecursion (HasNumber x)) (sym in_turn) counted.numbers)

  counts : (p : ℕ) → p < volume grid.lengths.items → (n : ℤ) → below (Int n) (map Int (get_or groups p [])) ≡ count_there x dims (place_of grid p) n all
  counts p l n =
      counted.counts p l n ∙ ap (λ (rows : List Row). below (Int n) (map Int (numbers_with x dims (place_of grid p) rows))) (sym in_turn)
      ∙ sym (count_turned x dims (place_of grid p) n schema margins chunks have)

  no_margin : none ≡ margins
  no_margin = nothing ∙ ap no_margins same ∙ sym m

  abbrev Ranked : Chunk → Chunk → Type 0
  Ranked = IsRanked x dims grid schema.dimensions margins groups

  as_many_cells : (chunk made : Chunk) → HasPlaces schema margins chunk → Ranked chunk made → length made.cells ≡ length made.positions
  as_many_cells chunk made p r =
      let many = as_many_numbers x dims grid schema.dimensions margins chunk r.places r.numbers p.placed r.taken in
      ap length r.cells
      ∙ pairs_full ranked_number r.numbers (ranks_in groups r.places r.numbers) (ranks_long r.places r.numbers many)
      ∙ many ∙ as_many_groups dims grid (frame_grid schema.dimensions margins chunk) chunk.positions r.places r.taken.have
      ∙ ap length (sym r.positions)
    where
      ranks_long : (places : List ℕ) (ns : List ℤ) → length ns ≡ length places → length (ranks_in groups places ns) ≡ length ns
      ranks_long [] [] e = refl
      ranks_long [] (n ∷ ns) e = absurd (omega (arith, e))
      ranks_long (p ∷ places) [] e = absurd (omega (arith, e))
      ranks_long (p ∷ places) (n ∷ ns) e = ap suc (ranks_long places ns (omega (arith, e)))

  in_same_frame : (chunk made : Chunk) → HasPlaces schema margins chunk → Ranked chunk made → AllByRecursion (λ p. p < volume (frame_lengths target.dimensions none)) made.positions
  in_same_frame chunk made p r =
      subst (λ (ps : List ℕ). AllByRecursion (λ q. q < volume (frame_lengths target.dimensions none)) ps) (sym r.positions)
      (subst (λ (ms : List ℕ). AllByRecursion (λ q. q < volume (frame_lengths target.dimensions ms)) chunk.positions) (sym no_margin)
      (subst (λ (ds : List Dimension). AllByRecursion (λ q. q < volume (frame_lengths ds margins)) chunk.positions) (sym same) p.placed.in_frame))

  ranked_places : (chunk made : Chunk) → HasPlaces schema margins chunk → Ranked chunk made → HasPlaces target none made
  ranked_places chunk made p r = record {
    framed = record {
      valid = framed.valid;
      core = subst (λ (at : ArrayVec ℕ). IsTrue (has_core target.dimensions at.items)) (sym r.at) (subst (λ (ds : List Dimension). IsTrue (has_core ds chunk.at.items)) (sym same) p.framed.core);
      each = framed.each;
      places = framed.places;
    };
    placed = record { each = as_many_cells chunk made p r; in_frame = in_same_frame chunk made p r };
  }

  module _ (front : List Chunk) (chunk : Chunk) (rest : List Chunk) (whole : chunks ≡ front ++ chunk ∷ rest) where
    held : HaveCells schema margins (front ++ chunk ∷ rest)
    held = subst (HaveCells schema margins) whole have

    own : AreRowsOf schema (chunk_rows schema.dimensions margins chunk)
    own = (all_right (λ c. AreRowsOf schema (chunk_rows schema.dimensions margins c)) front (chunk ∷ rest) held.rows_of).0

    own_places : HasPlaces schema margins chunk
    own_places = (all_right (HasPlaces schema margins) front (chunk ∷ rest) held.placed.all).0

    own_size : (some : List Chunk) → AllByRecursion (λ k. length k ≡ length schema.dimensions) (numbers (some ++ chunk ∷ rest)) → length chunk.at.items ≡ length schema.dimensions
    own_size [] s = s.0
    own_size (c ∷ some) s = own_size some s.1

    ranked_part : (made : Chunk) → Ranked chunk made → IsPart target.dimensions none (rank_rows x dims all) made
    ranked_part made r = record {
      each = as_many_cells chunk made own_places r;
      in_frame = in_same_frame chunk made own_places r;
      cells =
          let box = frame schema.dimensions (no_margins schema.dimensions) chunk.at.items in
          (λ i. rows_in (frame_low (same i) (no_margin i) (r.at i).items) (frame_lengths (same i) (no_margin i)) (r.positions i) (r.cells i))
          ∙ ranked_all x dims grid all groups known counts (frame_low schema.dimensions margins chunk.at.items) (frame_lengths schema.dimensions margins) chunk.positions chunk.cells r.places r.numbers own_places.placed.each r.taken.have r.taken.values
          ∙ ap (cell_wise (rank_cell x dims all))
          (sym (core_alone schema margins chunk m own_places own) ∙ sym (own_frame schema margins front chunk rest held held.placed.sized held.placed.rising (own_size front held.placed.sized) own)
          ∙ ap (λ (cs : List Chunk). within box (core_rows schema.dimensions margins cs)) (sym whole))
          ∙ sym (within-cell_wise box (rank_cell x dims all) all)
          ∙ (λ i. within (frame (sym same i) (sym (nothing ∙ ap no_margins same) i) (sym r.at i).items) (rank_rows x dims all));
    }

  -- what the chunks that are left become
  abbrev Become : List Chunk → List Chunk → Type 0
  Become left parts = (numbers parts ≡ numbers left) × AllByRecursion (HasPlaces target none) parts × AllByRecursion (IsPart target.dimensions none (rank_rows x dims all)) parts

  become : (front left parts : List Chunk) → chunks ≡ front ++ left → AllZip Ranked left parts → Become left parts
  become front [] [] whole z = (refl, tt, tt)
  become front [] (made ∷ parts) whole z = absurd z
  become front (chunk ∷ left) [] whole z = absurd z
  become front (chunk ∷ left) (made ∷ parts) whole z =
      let rest = become (front ++ chunk ∷ []) left parts (whole ∙ sym (append_assoc front (chunk ∷ []) left)) z.1 in
      ((λ i. (z.0.at i).items ∷ rest.0 i), (ranked_places chunk made (own_places front chunk left whole) z.0, rest.1), (ranked_part front chunk left whole made z.0, rest.2))

  pub ranked_have_places : (parts : List Chunk) → AllZip Ranked chunks parts → HavePlaces target none parts
  ranked_have_places parts z =
      let b = become [] chunks parts refl z in
      places_framed schema target none chunks parts framed same b.0 have.placed.rising have.placed.sized b.1

  pub ranked_are_parts : (parts : List Chunk) → AllZip Ranked chunks parts → AreParts target.dimensions none (rank_rows x dims all) parts
  ranked_are_parts parts z =
      let b = become [] chunks parts refl z in
      subst (λ (ds : List Dimension). AreParts ds none (rank_rows x dims all) parts) (sym same)
      (changed_parts schema.dimensions none (rank_cell x dims all) all chunks parts b.0 have.placed.rising have.placed.sized
      (λ k l h. core_listed schema.dimensions margins chunks k (valid_placed schema have.placed.valid).near have.placed.sized l h)
      (subst (λ (ds : List Dimension). AllByRecursion (IsPart ds none (rank_rows x dims all)) parts) same b.2))

-- ---- loops and answers

pub if_some : {A : Type 0} {P Q : A → Type 0} (o : Option A) → IfSome o P → ((x : A) → P x → Q x) → IfSome o Q
if_some None p f = tt
if_some (Some x) p f = f x p

pub places_inside : (sides : List Dimension) (margins : List ℕ) (chunk : Chunk) (grid : Grid) (positions : List ℕ) → grid.lengths.items ≡ frame_lengths sides margins → positions ≡ chunk.positions → IsPlaced sides margins chunk
    → AllByRecursion (λ p. p < volume grid.lengths.items) positions
places_inside sides margins chunk grid positions e f placed =
    subst (λ (ps : List ℕ). AllByRecursion (λ p. p < volume grid.lengths.items) ps) (sym f)
    (subst (λ (ls : List ℕ). AllByRecursion (λ p. p < volume ls) chunk.positions) (sym e) placed.in_frame)

pub groups_in_frame : (dims : List ℕ) (groups : Grid) (sides : List Dimension) (margins : List ℕ) (chunk : Chunk) (grid : Grid) (positions places : List ℕ) → grid.low.items ≡ frame_low sides margins chunk.at.items
    → grid.lengths.items ≡ frame_lengths sides margins → positions ≡ chunk.positions → HaveGroups dims groups grid positions places → HaveGroups dims groups (frame_grid sides margins chunk) chunk.positions places
groups_in_frame dims groups sides margins chunk grid positions places e f g h =
    subst (λ (low : List ℤ). AllZip (λ p t. HasGroup dims groups (coordinate_in low (frame_lengths sides margins) p) t) chunk.positions places) e
    (subst (λ (ls : List ℕ). AllZip (λ p t. HasGroup dims groups (coordinate_in grid.low.items ls p) t) chunk.positions places) f
    (subst (λ (ps : List ℕ). HaveGroups dims groups grid ps places) g h))

pub next_ranked : {A B : Type 0} (R : A → B → Type 0) (xs : List A) (k : ℕ) (x : A) (old new : List B) (y : B) → k < length xs → x ≡ get_or xs k x → AllZip R (take k xs) old → R x y → new ≡ old ++ y ∷ [] → AllZip R (take (k + 1) xs) new
next_ranked {A = A} R xs k x old new y l e h r n =
    subst (λ (some : List A). AllZip R some new) (ap (λ (z : A). take k xs ++ z ∷ []) e ∙ sym (take_more xs k x l))
    (subst (AllZip R (take k xs ++ x ∷ [])) (sym n) (zip_push R (take k xs) old x y h r))

pub few_counted : (count : ℕ) (rest chunks : List Chunk) → count < 2 ^ 62 → length rest ≡ 0 → IsCounted count rest chunks → (dims : List Dimension) (margins : List ℕ) → length (core_rows dims margins chunks) < 2 ^ 62
few_counted count [] chunks few none is dims margins =
    let all : length (core_rows dims margins chunks) ≤ count + 0 = is dims margins in
    omega (arith, all, few)
few_counted count (chunk ∷ rest) chunks few none is dims margins = absurd (omega (arith, none))

pub counted_groups : (x : ℕ) (dims : List ℕ) (grid : Grid) (sides : List Dimension) (margins : List ℕ) (all chunks : List Chunk) (ns made groups : List (List ℤ)) → chunks ≡ all → HoldNumbers x dims grid (rows_of_chunks sides margins chunks) ns
    → made ≡ map (sorted_by number_before) ns → groups ≡ made → CountNumbers x dims grid (rows_of_chunks sides margins all) groups
counted_groups x dims grid sides margins all chunks ns made groups e h m g =
    subst (CountNumbers x dims grid (rows_of_chunks sides margins all)) (sym (g ∙ m))
    (sorted_count x dims grid (rows_of_chunks sides margins all) ns (subst (λ (cs : List Chunk). HoldNumbers x dims grid (rows_of_chunks sides margins cs) ns) e h))
