-- Chunks that hold rows, told in order, are the parts of the rows in order.
use Rattle.std.proofs.Common.{◌≡◌, ℕ, zero, suc, ℤ, ◌+◌, ◌<◌, ◌≤◌, Bool, true, false, cond, ◌||◌, List, [], ◌∷◌, ◌++◌, length, drop, filter, map, Option, Some, None, Ok, refl, sym, ap, ◌∙◌, subst, arith, append_assoc}
use Rattle.std.proofs.lemmas.Cmp.{tied_itself}
use Rattle.std.proofs.lemmas.List.{append-nil, drop_all, drop_more}
use Rattle.std.specs.BTreeMap as tree
use Rattle.std.specs.BTreeMap.{BTreeMap, IsOrdered, is_at, values}
use Rattle.std.specs.List.{AllByRecursion, AllZip}
use Rattle.std.specs.List.Sorted.{IsStrictlySortedBy}
use Rattle.std.specs.Map.{keys_of, lookup, values_of}
use Rattle.std.specs.Ordering.{is_eq}
use Rattle.std.specs.Prelude.{slice_index_or}
use Rattle.std.specs.declared.cmp.Ordering.{Ordering}
use Rattle.std.specs.declared.cmp.Ordering.TheVariants.{Less, Equal, Greater}
use Rattle.arrayvec.specs.ArrayVec.{ArrayVec}
use Rattle.cell_values.specs.declared.datum.Cell.{Cell}
use Rattle.cell_values.specs.declared.datum.Row.{Row}
use Rattle.cell_values.specs.declared.schema.Attribute.{Attribute}
use Rattle.cell_values.specs.declared.schema.Bounds.{Bounds}
use Rattle.cell_values.specs.declared.schema.Schema.{Schema}
use Rattle.array_rows.specs.Arrays.{AreRowsOf}
use Rattle.array_rows.specs.Boxes.{is_inside, within}
use Rattle.array_rows.specs.Rows.{in_order, row_major}
use Rattle.array_rows.proofs.RowSets.{IsRising-in_order, IsRising-rows_where, cell_at-in_order, cell_at-within}
use Rattle.array_rows.proofs.RowsLemmas.{same_rows, within-cell_wise}
use Rattle.array_geom.specs.declared.chunk.Chunk.{Chunk}
use Rattle.array_geom.specs.declared.chunk.ChunkedArray.{ChunkedArray}
use Rattle.array_geom.specs.Geometry.{ChunkNumber, HasFrame, core, frame, volume}
use Rattle.array_geom.specs.Link.{HoldsRows, Is, IsPart, NumbersRise, chunk_rows, has_cell, is_listed, is_not_empty, number_order, numbers, rows_in}
use Rattle.array_geom.proofs.CoreLaws.{core_in_frame}
use Rattle.array_geom.proofs.LinkLaws.{within-within}
use Rattle.array_geom.proofs.NumberLaws.{same_number}
use Rattle.array_parts.specs.Parts.{AreParts}
use Rattle.array_parts.specs.Placed.{HasPlaces, HavePlaces}
use Rattle.array_parts.proofs.PartLemmas.{all_kept}
use Rattle.area_cells.proofs.PieceLaws.{all_within}
use Rattle.chunk_cells.specs.Fitted.{HasValues}
use Rattle.chunk_cells.proofs.FitLaws.{fitted_rows, have_values}
use Rattle.chunk_cells.proofs.NumberLaws.{number_order_total}
use Rattle.logical_plan.specs.CellOps.{fit_cell, fit_rows}
use Rattle.area_cells.specs.Margins.{no_margins}
use Rattle.area_cells.proofs.FrameLaws.{each_none, places_none}
use Rattle.redimension_exec.specs.Inner.Filling.{IsHeld, IsHeldAt, by_number}
use Rattle.redimension_exec.specs.Inner.Telling.{CanBeTold, CanTell, IsToldOf, told_rows}
use Rattle.redimension_exec.specs.Inner.Sorting.{AreDifferent}
use Rattle.redimension_exec.proofs.HoldLaws.{long_as_core}

-- ---- the rows of a chunk, cell by cell

-- with the cells that are left the rows become all
abbrev pub IsOnTheWay : List ℤ → List ℕ → List Row → List ℕ → List Cell → List ℕ → List Cell → Type 0
IsOnTheWay low lengths rows left cells positions all = rows ++ rows_in low lengths left cells ≡ rows_in low lengths positions all

next_row : (low : List ℤ) (lengths : List ℕ) (p : ℕ) (ps : List ℕ) (cells : List Cell) → rows_in low lengths (p ∷ ps) cells ≡ rows_in low lengths (p ∷ []) cells ++ rows_in low lengths ps (drop 1 cells)
next_row low lengths p [] [] = refl
next_row low lengths p (q ∷ ps) [] = refl
next_row low lengths p ps (x ∷ cells) = refl

pub step : (low : List ℤ) (lengths : List ℕ) (rows rows' : List Row) (i : ℕ) (cells cells' : List Cell) (positions : List ℕ) (all : List Cell)
    → i < length positions → IsOnTheWay low lengths rows (drop i positions) cells positions all
    → rows' ≡ rows ++ rows_in low lengths (slice_index_or positions i 0 ∷ []) cells → cells' ≡ drop 1 cells
    → IsOnTheWay low lengths rows' (drop (i + 1) positions) cells' positions all
step low lengths rows rows' i cells cells' positions all l h e f =
    let p = slice_index_or positions i 0 in
    let ps = drop (i + 1) positions in
    ap (λ (rs : List Row). rs ++ rows_in low lengths ps cells') e
    ∙ ap (λ (cs : List Cell). (rows ++ rows_in low lengths (p ∷ []) cells) ++ rows_in low lengths ps cs) f
    ∙ append_assoc rows (rows_in low lengths (p ∷ []) cells) (rows_in low lengths ps (drop 1 cells))
    ∙ ap (λ (rs : List Row). rows ++ rs) (sym (next_row low lengths p ps cells))
    ∙ ap (λ (qs : List ℕ). rows ++ rows_in low lengths qs cells) (sym (drop_more positions i 0 l))
    ∙ h

pub done : (low : List ℤ) (lengths : List ℕ) (rows : List Row) (i : ℕ) (cells : List Cell) (positions : List ℕ) (all : List Cell)
    → length positions ≤ i → IsOnTheWay low lengths rows (drop i positions) cells positions all → rows ≡ rows_in low lengths positions all
done low lengths rows i cells positions all l h =
    sym (append-nil rows) ∙ ap (λ (ps : List ℕ). rows ++ rows_in low lengths ps cells) (sym (drop_all i positions l)) ∙ h

-- each place is one of the frame
place_at : (n : ℕ) (positions : List ℕ) (i : ℕ) → AllByRecursion (λ p. p < n) positions → i < length positions → slice_index_or positions i 0 < n
place_at n [] i a h = absurd (omega (arith, h))
place_at n (p ∷ positions) zero a h = a.0
place_at n (p ∷ positions) (suc i) a h = place_at n positions i a.1 (omega (arith, h))

pub place_inside : (lengths own positions listed : List ℕ) (i : ℕ) → own ≡ lengths → listed ≡ positions → AllByRecursion (λ p. p < volume lengths) positions
    → i < length listed → slice_index_or listed i 0 < volume own
place_inside lengths own positions listed i e f a h =
    subst (λ (ns : List ℕ). slice_index_or listed i 0 < volume ns) (sym e)
    (place_at (volume lengths) listed i (subst (AllByRecursion (λ p. p < volume lengths)) (sym f) a) h)

-- ---- rows in order, and those of a box

within-in_order : (area : Bounds) (rows : List Row) → within area (in_order rows) ≡ in_order (within area rows)
within-in_order area rows =
    same_rows _ _ (IsRising-rows_where (is_inside area) (in_order rows) (IsRising-in_order rows)) (IsRising-in_order (within area rows)) (λ c.
    cell_at-within area (in_order rows) c
    ∙ ap (λ o. cond (is_inside area c) o None) (cell_at-in_order rows c)
    ∙ sym (cell_at-within area rows c)
    ∙ sym (cell_at-in_order (within area rows) c))

within-told : (target : Schema) (area : Bounds) (rows : List Row) → within area (told_rows target rows) ≡ told_rows target (within area rows)
within-told target area rows = within-cell_wise area (fit_cell target.attributes) (in_order rows) ∙ ap (fit_rows target.attributes) (within-in_order area rows)

less_or_same : (p q : Row → Bool) (rows : List Row) → length (filter p (filter q rows)) ≤ length (filter p rows)
less_or_same p q [] = omega arith
less_or_same p q (row ∷ rows) = cases (q row) (p row) (less_or_same p q rows)
  where
    inner : (s : Bool) → length (filter p (filter q rows)) ≤ length (filter p rows) → length (filter p (filter q rows)) ≤ length (cond s (row ∷ filter p rows) (filter p rows))
    inner true h = omega (arith, h)
    inner false h = h

    both : (s : Bool) → length (filter p (filter q rows)) ≤ length (filter p rows) → length (cond s (row ∷ filter p (filter q rows)) (filter p (filter q rows))) ≤ length (cond s (row ∷ filter p rows) (filter p rows))
    both true h = omega (arith, h)
    both false h = h

    cases : (t s : Bool) → length (filter p (filter q rows)) ≤ length (filter p rows) → length (filter p (cond t (row ∷ filter q rows) (filter q rows))) ≤ length (filter p (row ∷ rows))
    cases true s h = both (p row) h
    cases false s h = inner (p row) h

apart_within : (area : Bounds) (rows : List Row) → AreDifferent rows → AreDifferent (within area rows)
apart_within area rows apart c =
    let less = less_or_same (λ (row : Row). is_eq (row_major row.at.items c)) (λ (row : Row). is_inside area row.at.items) rows in
    let few = apart c in
    omega (arith, less, few)

-- ---- one chunk

module _ (target : Schema) (margins : List ℕ) (made : List Row) (chunk : Chunk) (can : CanBeTold target margins made chunk) where
  pub told_apart : (rows : List Row) → rows ≡ chunk_rows target.dimensions margins chunk → AreDifferent rows
  told_apart rows e = subst AreDifferent (sym (e ∙ can.part.cells)) (apart_within (frame target.dimensions margins chunk.at.items) made can.apart)

  pub told_values : (attributes : List Attribute) (rows sorted : List Row) → attributes ≡ target.attributes → rows ≡ chunk_rows target.dimensions margins chunk → sorted ≡ in_order rows → AllByRecursion (λ row. HasValues attributes row.cell) sorted
  told_values attributes rows sorted a e s =
      let area : Bounds = frame target.dimensions margins chunk.at.items in
      let same : sorted ≡ within area (in_order made) = s ∙ ap in_order (e ∙ can.part.cells) ∙ sym (within-in_order area made) in
      subst (λ (attrs : List Attribute). AllByRecursion (λ row. HasValues attrs row.cell) sorted) (sym a)
      (subst (AllByRecursion (λ row. HasValues target.attributes row.cell)) (sym same) (all_kept (λ row. HasValues target.attributes row.cell) (λ row. is_inside area row.at.items) (in_order made) can.values))

  pub told_here : (attributes : List Attribute) (rows sorted told : List Row) → attributes ≡ target.attributes → rows ≡ chunk_rows target.dimensions margins chunk → sorted ≡ in_order rows → told ≡ fit_rows attributes sorted
      → told ≡ told_rows target (chunk_rows target.dimensions margins chunk)
  told_here attributes rows sorted told a e s t = t ∙ ap (λ (attrs : List Attribute). fit_rows attrs sorted) a ∙ ap (fit_rows target.attributes) (s ∙ ap in_order e)

  pub told_inside : (number : ArrayVec ℕ) (told : List Row) → number ≡ chunk.at → told ≡ told_rows target (chunk_rows target.dimensions margins chunk)
      → AllByRecursion (λ row. is_inside (frame target.dimensions margins number.items) row.at.items ≡ true) told
  told_inside number told n t =
      let area : Bounds = frame target.dimensions margins chunk.at.items in
      subst (λ (k : ArrayVec ℕ). AllByRecursion (λ row. is_inside (frame target.dimensions margins k.items) row.at.items ≡ true) told) (sym n)
      (all_within area (told_rows target made) told (t ∙ ap (told_rows target) can.part.cells ∙ sym (within-told target area made)))

-- the chunk in order is its part of the rows in order
told_part : (target : Schema) (margins : List ℕ) (made : List Row) (chunk told : Chunk) → IsPart target.dimensions margins made chunk → IsToldOf target margins chunk told → IsPart target.dimensions margins (told_rows target made) told
told_part target margins made chunk told part is = record {
  each = is.placed.each;
  in_frame = is.placed.in_frame;
  cells =
      is.rows
      ∙ ap (told_rows target) part.cells
      ∙ sym (within-told target (frame target.dimensions margins chunk.at.items) made)
      ∙ ap (λ (k : ArrayVec ℕ). within (frame target.dimensions margins k.items) (told_rows target made)) (sym is.at);
}

-- ---- all chunks, one after the other

pub record IsTelling (target : Schema) (margins : List ℕ) (made : List Row) (all left told : List Chunk) : Type 0 where
  pub ready : AllByRecursion (CanBeTold target margins made) left
  pub leads : (rest : List Chunk) → AllZip (IsToldOf target margins) left rest → AllZip (IsToldOf target margins) all (told ++ rest)

pub tell_first : (target : Schema) (margins : List ℕ) (made : List Row) (all told : List Chunk) → told ≡ [] → AllByRecursion (CanBeTold target margins made) all → IsTelling target margins made all all told
tell_first target margins made all told e ready = record {
  ready = ready;
  leads = λ rest h. subst (λ (those : List Chunk). AllZip (IsToldOf target margins) all (those ++ rest)) (sym e) h;
}

pub can_next : (target : Schema) (margins : List ℕ) (made : List Row) (all told : List Chunk) (es es' : List (ArrayVec ℕ × Chunk)) (number : ArrayVec ℕ) (chunk : Chunk) → es ≡ (number, chunk) ∷ es'
    → IsTelling target margins made all (values_of es) told → CanBeTold target margins made chunk
can_next target margins made all told es es' number chunk e is = (subst (λ (fs : List (ArrayVec ℕ × Chunk)). AllByRecursion (CanBeTold target margins made) (values_of fs)) e is.ready).0

pub tell_next : (target : Schema) (margins : List ℕ) (made : List Row) (all told told' : List Chunk) (es es' : List (ArrayVec ℕ × Chunk)) (number : ArrayVec ℕ) (chunk next : Chunk) → es ≡ (number, chunk) ∷ es'
    → IsToldOf target margins chunk next → told' ≡ told ++ next ∷ [] → IsTelling target margins made all (values_of es) told → IsTelling target margins made all (values_of es') told'
tell_next target margins made all told told' es es' number chunk next e of t is =
    let far = subst (λ (fs : List (ArrayVec ℕ × Chunk)). IsTelling target margins made all (values_of fs) told) e is in
    record {
      ready = far.ready.1;
      leads = λ rest h.
          subst (AllZip (IsToldOf target margins) all) (sym (append_assoc told (next ∷ []) rest) ∙ ap (λ (those : List Chunk). those ++ rest) (sym t)) (far.leads (next ∷ rest) (of, h));
    }

pub tell_last : (target : Schema) (margins : List ℕ) (made : List Row) (all told : List Chunk) (es : List (ArrayVec ℕ × Chunk)) → length es ≡ 0 → IsTelling target margins made all (values_of es) told → AllZip (IsToldOf target margins) all told
tell_last target margins made all told [] e is = subst (AllZip (IsToldOf target margins) all) (append-nil told) (is.leads [] tt)
tell_last target margins made all told (x ∷ es) e is = absurd (omega (arith, e))

-- ---- the entries of a tree

keys_rise : (es : List (ArrayVec ℕ × Chunk)) → IsStrictlySortedBy by_number (keys_of es) → NumbersRise (map (λ e. e.0.items) es)
unfolding IsStrictlySortedBy
keys_rise [] s = tt
keys_rise (e ∷ es) s = (later es s.0, keys_rise es s.1)
  where
    later : (fs : List (ArrayVec ℕ × Chunk)) → AllByRecursion (λ y. by_number e.0 y ≡ Less) (keys_of fs) → AllByRecursion (λ n. number_order e.0.items n ≡ Less) (map (λ f. f.0.items) fs)
    later [] a = tt
    later (f ∷ fs) a = (a.0, later fs a.1)

none_behind : (key : ArrayVec ℕ) (es : List (ArrayVec ℕ × Chunk)) → AllByRecursion (λ n. number_order key.items n ≡ Less) (map (λ e. e.0.items) es) → lookup (is_at (by_number key)) es ≡ None
none_behind key [] r = refl
none_behind key (e ∷ es) r = (λ i. cond (is_eq (r.0 i)) (Some e.1) (lookup (is_at (by_number key)) es)) ∙ none_behind key es r.1

no_chunk : {A : Type 0} (chunk : A) → None ≡ Some chunk → ⊥
no_chunk chunk e = cc

behind : (e : ArrayVec ℕ × Chunk) (es : List (ArrayVec ℕ × Chunk)) (key : ArrayVec ℕ) (chunk : Chunk) → AllByRecursion (λ n. number_order e.0.items n ≡ Less) (map (λ f. f.0.items) es) → lookup (is_at (by_number key)) es ≡ Some chunk
    → lookup (is_at (by_number key)) (e ∷ es) ≡ Some chunk
behind e es key chunk r g = cases (by_number key e.0) refl
  where
    cases : (o : Ordering) → by_number key e.0 ≡ o → cond (is_eq o) (Some e.1) (lookup (is_at (by_number key)) es) ≡ Some chunk
    cases Less h = g
    cases Greater h = g
    cases Equal h =
        let same : key.items ≡ e.0.items = same_number key.items e.0.items h in
        absurd (no_chunk chunk (sym (none_behind key es (subst (λ (k : ChunkNumber). AllByRecursion (λ n. number_order k n ≡ Less) (map (λ f. f.0.items) es)) (sym same) r)) ∙ g))

each_entry : (P : ArrayVec ℕ → Chunk → Type 0) (es : List (ArrayVec ℕ × Chunk)) → NumbersRise (map (λ e. e.0.items) es) → ((key : ArrayVec ℕ) (chunk : Chunk) → lookup (is_at (by_number key)) es ≡ Some chunk → P key chunk)
    → AllByRecursion (λ e. P e.0 e.1) es
each_entry P [] r f = tt
each_entry P (e ∷ es) r f = (
  f e.0 e.1 (λ i. cond (is_eq (tied_itself number_order_total e.0.items i)) (Some e.1) (lookup (is_at (by_number e.0)) es)),
  each_entry P es r.1 (λ key chunk g. f key chunk (behind e es key chunk r.0 g)),
)

listed_key : (key : ArrayVec ℕ) (chunk : Chunk) (es : List (ArrayVec ℕ × Chunk)) → lookup (is_at (by_number key)) es ≡ Some chunk → is_listed key.items (map (λ e. e.0.items) es) ≡ true
listed_key key chunk [] g = absurd (no_chunk chunk g)
listed_key key chunk (e ∷ es) g = cases (by_number key e.0) refl g (listed_key key chunk es)
  where
    or_right : (q r : Bool) → r ≡ true → (q || r) ≡ true
    or_right true r h = refl
    or_right false r h = h

    cases : (o : Ordering) → by_number key e.0 ≡ o → cond (is_eq o) (Some e.1) (lookup (is_at (by_number key)) es) ≡ Some chunk
        → (lookup (is_at (by_number key)) es ≡ Some chunk → is_listed key.items (map (λ f. f.0.items) es) ≡ true) → is_listed key.items (map (λ f. f.0.items) (e ∷ es)) ≡ true
    cases Less h g rest = or_right (is_eq (number_order e.0.items key.items)) (is_listed key.items (map (λ f. f.0.items) es)) (rest g)
    cases Greater h g rest = or_right (is_eq (number_order e.0.items key.items)) (is_listed key.items (map (λ f. f.0.items) es)) (rest g)
    cases Equal h g rest =
        ap (λ (k : ChunkNumber). is_eq (number_order k key.items) || is_listed key.items (map (λ f. f.0.items) es)) (sym (same_number key.items e.0.items h))
        ∙ ap (λ (o : Ordering). is_eq o || is_listed key.items (map (λ f. f.0.items) es)) (tied_itself number_order_total key.items)

-- ---- the chunks of a tree

module _ (target : Schema) (chunks : BTreeMap (ArrayVec ℕ) Chunk) (can : CanTell target chunks) (order : IsOrdered by_number chunks) where
  abbrev none : List ℕ
  none = no_margins target.dimensions

  held_each : AllByRecursion (λ e. IsHeldAt target can.made e.0.items e.1) chunks.entries
  held_each = each_entry (λ key chunk. IsHeldAt target can.made key.items chunk) chunks.entries (keys_rise chunks.entries order) (λ key chunk g. subst (IsHeld target can.made key) g (can.held key))

  same_keys : (es : List (ArrayVec ℕ × Chunk)) → AllByRecursion (λ e. IsHeldAt target can.made e.0.items e.1) es → numbers (values_of es) ≡ map (λ e. e.0.items) es
  same_keys [] h = refl
  same_keys (e ∷ es) h = let rest = same_keys es h.1 in λ i. h.0.at i ∷ rest i

  can_tell_each : (margins : List ℕ) → margins ≡ none → (es : List (ArrayVec ℕ × Chunk)) → AllByRecursion (λ e. IsHeldAt target can.made e.0.items e.1) es → AllByRecursion (CanBeTold target margins can.made) (values_of es)
  can_tell_each margins m [] h = tt
  can_tell_each margins m (e ∷ es) h = (
    subst (λ (ms : List ℕ). CanBeTold target ms can.made e.1) (sym m) (record {
      framed = subst (λ (k : ChunkNumber). HasFrame target none k) (sym h.0.at) h.0.framed;
      part = h.0.part;
      apart = can.apart;
      values = have_values target.attributes target.attributes (in_order can.made) refl can.rows_of.kinds;
    }),
    can_tell_each margins m es h.1,
  )

  pub can_tell_all : (margins : List ℕ) → margins ≡ none → AllByRecursion (CanBeTold target margins can.made) (values chunks)
  can_tell_all margins m = can_tell_each margins m chunks.entries held_each

  -- what is told of them

  told_numbers : (old told : List Chunk) → AllZip (IsToldOf target none) old told → numbers told ≡ numbers old
  told_numbers [] [] h = refl
  told_numbers [] (t ∷ told) h = absurd h
  told_numbers (o ∷ old) [] h = absurd h
  told_numbers (o ∷ old) (t ∷ told) h = let rest = told_numbers old told h.1 in λ i. (h.0.at i).items ∷ rest i

  told_parts : (old told : List Chunk) → AllByRecursion (CanBeTold target none can.made) old → AllZip (IsToldOf target none) old told → AllByRecursion (IsPart target.dimensions none (told_rows target can.made)) told
  told_parts [] [] a h = tt
  told_parts [] (t ∷ told) a h = absurd h
  told_parts (o ∷ old) [] a h = absurd h
  told_parts (o ∷ old) (t ∷ told) a h = (told_part target none can.made o t a.0.part h.0, told_parts old told a.1 h.1)

  told_each : (old told : List Chunk) → AllByRecursion (CanBeTold target none can.made) old → AllZip (IsToldOf target none) old told → AllByRecursion (HasPlaces target none) told
  told_each [] [] a h = tt
  told_each [] (t ∷ told) a h = absurd h
  told_each (o ∷ old) [] a h = absurd h
  told_each (o ∷ old) (t ∷ told) a h = (record { framed = subst (λ (k : ArrayVec ℕ). HasFrame target none k.items) (sym h.0.at) a.0.framed; placed = h.0.placed }, told_each old told a.1 h.1)

  each_sized : (old : List Chunk) → AllByRecursion (CanBeTold target none can.made) old → AllByRecursion (λ k. length k ≡ length target.dimensions) (numbers old)
  each_sized [] a = tt
  each_sized (o ∷ old) a = (long_as_core target.dimensions o.at.items a.0.framed.core, each_sized old a.1)

  all_numbers : numbers (values chunks) ≡ map (λ e. e.0.items) chunks.entries
  all_numbers = same_keys chunks.entries held_each

  some_before : (rows : List Row) → is_not_empty (told_rows target rows) ≡ true → is_not_empty rows ≡ true
  some_before [] e = e
  some_before (row ∷ rows) e = refl

  none_here : (rows : List Row) → rows ≡ [] → is_not_empty rows ≡ true → ⊥
  none_here rows e n = let f : false ≡ true = sym (ap is_not_empty e) ∙ n in cc

  listed_here : (k : ChunkNumber) → length k ≡ length target.dimensions → has_cell target.dimensions can.made k ≡ true → is_listed k (map (λ e. e.0.items) chunks.entries) ≡ true
  listed_here k l h = cases (tree.get by_number chunks (record { items = k })) refl (can.held (record { items = k }))
    where
      cases : (o : Option Chunk) → tree.get by_number chunks (record { items = k }) ≡ o → IsHeld target can.made (record { items = k }) o → is_listed k (map (λ e. e.0.items) chunks.entries) ≡ true
      cases None g held = absurd (none_here (within (core target.dimensions k) can.made)
          (sym (within-within (core target.dimensions k) (frame target.dimensions none k) can.made (λ c i. core_in_frame target.dimensions none k c (each_none target.dimensions) i))
          ∙ ap (within (core target.dimensions k)) (held l)) h)
      cases (Some chunk) g held = listed_key (record { items = k }) chunk chunks.entries g

  told_are_parts : (told : List Chunk) → AllZip (IsToldOf target none) (values chunks) told → AreParts target.dimensions none (told_rows target can.made) told
  told_are_parts told h =
      let same : numbers told ≡ numbers (values chunks) = told_numbers (values chunks) told h in
      let each = can_tell_all none refl in
      record {
        in_order = subst NumbersRise (sym (same ∙ all_numbers)) (keys_rise chunks.entries order);
        sized = subst (AllByRecursion (λ k. length k ≡ length target.dimensions)) (sym same) (each_sized (values chunks) each);
        enough = λ k l e.
            ap (is_listed k) (same ∙ all_numbers)
            ∙ listed_here k l (some_before (within (core target.dimensions k) can.made) (sym (ap is_not_empty (within-told target (core target.dimensions k) can.made)) ∙ e));
        parts = told_parts (values chunks) told each h;
      }

  pub parts_told : (margins : List ℕ) → margins ≡ none → (told : List Chunk) → AllZip (IsToldOf target margins) (values chunks) told → AreParts target.dimensions margins (told_rows target can.made) told
  parts_told margins m told h =
      subst (λ (ms : List ℕ). AreParts target.dimensions ms (told_rows target can.made) told) (sym m) (told_are_parts told (subst (λ (ms : List ℕ). AllZip (IsToldOf target ms) (values chunks) told) m h))

  pub places_told : (margins : List ℕ) → margins ≡ none → (told : List Chunk) → AllZip (IsToldOf target margins) (values chunks) told → HavePlaces target margins told
  places_told margins m told h =
      let are = told_are_parts told (subst (λ (ms : List ℕ). AllZip (IsToldOf target ms) (values chunks) told) m h) in
      subst (λ (ms : List ℕ). HavePlaces target ms told) (sym m) (record {
        valid = can.rows_of.valid;
        each = each_none target.dimensions;
        places = places_none target can.rows_of.valid;
        rising = are.in_order;
        sized = are.sized;
        all = told_each (values chunks) told (can_tell_all none refl) (subst (λ (ms : List ℕ). AllZip (IsToldOf target ms) (values chunks) told) m h);
      })

  pub rows_told : AreRowsOf target (told_rows target can.made)
  rows_told = fitted_rows target target (in_order can.made) can.rows_of.valid refl refl can.rows_of

-- ---- the array

pub held_rows : (target : Schema) (array : ChunkedArray) (rows : List Row) → Is array (record { schema = target; rows = Ok rows }) → HoldsRows array.schema array rows
held_rows target array rows is = subst (λ (s : Schema). HoldsRows s array rows) (sym is.schema) is.cells

pub rows_are : (target : Schema) (array : ChunkedArray) (held rows : List Row) → Is array (record { schema = target; rows = Ok held }) → rows ≡ held → AreRowsOf target rows
rows_are target array held rows is e = subst (AreRowsOf target) (sym e) is.cells.rows_of
