-- Two versions of an array that have the same wanted chunks for a box, with the same cells in their frames, have the same cells in the box.
use Rattle.std.proofs.Common.{◌≡◌, suc, ℤ, Bool, true, false, List, [], ◌∷◌, length, cond, Some, None, refl, sym, ap, ◌∙◌, subst, arith}
use Rattle.std.specs.Prelude.{◌&&◌, int_le, IsTrue}
use Rattle.std.specs.List.{AllByRecursion}
use Rattle.std.specs.Ordering.{is_eq}
use Rattle.std.specs.declared.cmp.Ordering.{Ordering}
use Rattle.std.specs.declared.cmp.Ordering.TheVariants.{Less, Equal, Greater}
use Rattle.cell_values.specs.declared.datum.Row.{Row}
use Rattle.cell_values.specs.declared.schema.Bounds.{Bounds}
use Rattle.cell_values.specs.declared.schema.Dimension.{Dimension}
use Rattle.cell_values.specs.declared.schema.Schema.{Schema}
use Rattle.array_rows.specs.Arrays.{AreRowsOf}
use Rattle.array_rows.specs.Boxes.{is_between, is_inside, within, meet, bounds_of}
use Rattle.array_rows.specs.Rows.{Coordinate, row_major, cell_at}
use Rattle.array_rows.proofs.RowsLemmas.{row_major_exact, same_rows}
use Rattle.array_rows.proofs.RowSets.{IsRising-rows_where, cell_at-within}
use Rattle.array_geom.specs.Geometry.{ChunkNumber, chunk_of, core, core_meets, frame, overlaps}
use Rattle.array_geom.specs.Link.{is_not_empty, has_cell}
use Rattle.array_geom.proofs.CoreLaws.{core_has, length-chunk_of, core_in_frame}
use Rattle.array_geom.proofs.LawProofs.{meet_holds_both, what_holds_is_ordered}
use Rattle.array_geom.proofs.NearLemmas.{near_slice}
use Rattle.array_geom.proofs.TestLaws.{and_parts, and_both}
use Rattle.plan_needs.specs.Wanted.{is_wanted, HaveAlike}

-- ---- rows within bounds

-- no cell stands beyond the bounds
none_beyond : (dims : List Dimension) (rows : List Row) (c : Coordinate) → AllByRecursion (λ row. IsTrue (is_inside (bounds_of dims) row.at.items)) rows → is_inside (bounds_of dims) c ≡ false → cell_at rows c ≡ None
none_beyond dims [] c all out = refl
none_beyond dims (row ∷ rows) c all out = by_order (row_major row.at.items c) refl (none_beyond dims rows c all.1 out)
  where
    by_order : (o : Ordering) → row_major row.at.items c ≡ o → cell_at rows c ≡ None → cond (is_eq o) (Some row.cell) (cell_at rows c) ≡ None
    by_order Less e ih = ih
    by_order Greater e ih = ih
    by_order Equal e ih =
        let same : row.at.items ≡ c = row_major_exact row.at.items c e in
        let there : is_inside (bounds_of dims) c ≡ true = subst (λ (z : Coordinate). is_inside (bounds_of dims) z ≡ true) same all.0 in
        cc

-- a box that holds a coordinate has as many dimensions
pub low_length : (lo hi : List ℤ) (c : Coordinate) → is_between lo hi c ≡ true → (length lo ≡ length c) × (length hi ≡ length c)
low_length [] [] [] e = (refl, refl)
low_length [] [] (x ∷ c) e = absurd cc
low_length [] (h ∷ hi) [] e = absurd cc
low_length [] (h ∷ hi) (x ∷ c) e = absurd cc
low_length (l ∷ lo) [] [] e = absurd cc
low_length (l ∷ lo) [] (x ∷ c) e = absurd cc
low_length (l ∷ lo) (h ∷ hi) [] e = absurd cc
low_length (l ∷ lo) (h ∷ hi) (x ∷ c) e =
    let t = low_length lo hi c (and_parts (int_le l x && int_le x h) (is_between lo hi c) e).1 in
    (omega (arith, t.0), omega (arith, t.1))

-- the chunk of a coordinate in the box meets the box
pub chunk_meets : (dims : List Dimension) (area : Bounds) (k : ChunkNumber) (c : Coordinate) → is_inside (core dims k) c ≡ true → is_inside area c ≡ true → core_meets dims area k ≡ true
chunk_meets dims area k c in_core in_area =
    what_holds_is_ordered (meet (core dims k) area) c
    (meet_holds_both (core dims k) area c (low_length (core dims k).lo.items (core dims k).hi.items c in_core) (low_length area.lo.items area.hi.items c in_area)
    ∙ and_both (is_inside (core dims k) c) (is_inside area c) in_core in_area)

pub one_each : (dims : List Dimension) → length (overlaps dims) ≡ length dims
one_each [] = refl
one_each (d ∷ dims) = ap suc (one_each dims)

-- ---- one cell

-- a part that holds a coordinate has the cell there
cell_in : (area : Bounds) (rows : List Row) (c : Coordinate) → is_inside area c ≡ true → cell_at (within area rows) c ≡ cell_at rows c
cell_in area rows c e = cell_at-within area rows c ∙ ap (λ (b : Bool). cond b (cell_at rows c) None) e

pub empty_part : (rows : List Row) → is_not_empty rows ≡ false → rows ≡ []
empty_part [] e = refl
empty_part (row ∷ rows) e = cc

-- no cell stands where the core has none
none_in_core : (dims : List Dimension) (rows : List Row) (k : ChunkNumber) (c : Coordinate) → is_inside (core dims k) c ≡ true → has_cell dims rows k ≡ false → cell_at rows c ≡ None
none_in_core dims rows k c in_core none = sym (cell_in (core dims k) rows c in_core) ∙ ap (λ (l : List Row). cell_at l c) (empty_part (within (core dims k) rows) none)

same_wanted : (a b m : Bool) → m ≡ true → (a && m) ≡ (b && m) → a ≡ false → b ≡ false
same_wanted a false m e h f = refl
same_wanted true true m e h f = f
same_wanted false true m e h f = sym e ∙ sym h

alike_at : (schema : Schema) (area : Bounds) (a b : List Row) (c : Coordinate) → AreRowsOf schema a → HaveAlike schema.dimensions area a b → is_inside (bounds_of schema.dimensions) c ≡ true → is_inside area c ≡ true → cell_at a c ≡ cell_at b c
alike_at schema area a b c is h in_bounds in_area = by_cell (has_cell schema.dimensions a (chunk_of schema.dimensions c)) refl
  where
    long : length (chunk_of schema.dimensions c) ≡ length schema.dimensions
    long = length-chunk_of schema.dimensions c in_bounds

    in_core : is_inside (core schema.dimensions (chunk_of schema.dimensions c)) c ≡ true
    in_core = core_has schema.dimensions c (near_slice schema schema.dimensions refl is.valid) in_bounds

    meets : core_meets schema.dimensions area (chunk_of schema.dimensions c) ≡ true
    meets = chunk_meets schema.dimensions area (chunk_of schema.dimensions c) c in_core in_area

    in_frame : is_inside (frame schema.dimensions (overlaps schema.dimensions) (chunk_of schema.dimensions c)) c ≡ true
    in_frame = core_in_frame schema.dimensions (overlaps schema.dimensions) (chunk_of schema.dimensions c) c (one_each schema.dimensions) in_core

    by_cell : (t : Bool) → has_cell schema.dimensions a (chunk_of schema.dimensions c) ≡ t → cell_at a c ≡ cell_at b c
    by_cell true e =
        let wanted : is_wanted schema.dimensions a area (chunk_of schema.dimensions c) ≡ true = and_both (has_cell schema.dimensions a (chunk_of schema.dimensions c)) (core_meets schema.dimensions area (chunk_of schema.dimensions c)) e meets in
        let frames = h.cells (chunk_of schema.dimensions c) long wanted in
        sym (cell_in (frame schema.dimensions (overlaps schema.dimensions) (chunk_of schema.dimensions c)) a c in_frame)
        ∙ ap (λ (l : List Row). cell_at l c) frames
        ∙ cell_in (frame schema.dimensions (overlaps schema.dimensions) (chunk_of schema.dimensions c)) b c in_frame
    by_cell false e =
        let other : has_cell schema.dimensions b (chunk_of schema.dimensions c) ≡ false =
        same_wanted (has_cell schema.dimensions a (chunk_of schema.dimensions c)) (has_cell schema.dimensions b (chunk_of schema.dimensions c)) (core_meets schema.dimensions area (chunk_of schema.dimensions c)) meets (h.wanted (chunk_of schema.dimensions c) long) e in
        none_in_core schema.dimensions a (chunk_of schema.dimensions c) c in_core e ∙ sym (none_in_core schema.dimensions b (chunk_of schema.dimensions c) c in_core other)

-- ---- all cells in the box

pub scans_alike : (schema : Schema) (area : Bounds) (a b : List Row) → AreRowsOf schema a → AreRowsOf schema b → HaveAlike schema.dimensions area a b → within area a ≡ within area b
scans_alike schema area a b ia ib h =
    same_rows (within area a) (within area b) (IsRising-rows_where (is_inside area) a ia.are_rows.rising) (IsRising-rows_where (is_inside area) b ib.are_rows.rising)
    (λ c. cell_at-within area a c ∙ by_box c (is_inside area c) refl ∙ sym (cell_at-within area b c))
  where
    by_bounds : (c : Coordinate) (t : Bool) → is_inside (bounds_of schema.dimensions) c ≡ t → is_inside area c ≡ true → cell_at a c ≡ cell_at b c
    by_bounds c true e in_area = alike_at schema area a b c ia h e in_area
    by_bounds c false e in_area = none_beyond schema.dimensions a c ia.are_rows.in_bounds e ∙ sym (none_beyond schema.dimensions b c ib.are_rows.in_bounds e)

    by_box : (c : Coordinate) (t : Bool) → is_inside area c ≡ t → cond t (cell_at a c) None ≡ cond t (cell_at b c) None
    by_box c false e = refl
    by_box c true e = by_bounds c (is_inside (bounds_of schema.dimensions) c) refl e
