-- Windows within the overlap of a scan: each wanted chunk has what the windows of its cells reach.
use Rattle.std.proofs.Common.{◌≡◌, ℕ, ◌≤◌, ℤ, pos, ◌+ℤ◌, ◌-ℤ◌, ◌≤ℤ◌, Bool, true, false, List, [], ◌∷◌, filter, length, cond, Option, Some, None, refl, sym, ap, ◌∙◌, subst, arith}
use Rattle.std.specs.Prelude.{◌==◌, nat_le, IsTrue}
use Rattle.std.specs.Int.{int_min}
use Rattle.std.specs.List.{AllByRecursion}
use Rattle.std.proofs.lemmas.Bool.{false≢true, and_parts, and_from, leb-true, eqb-true}
use Rattle.std.proofs.lemmas.Int.{ints, clamps}
use Rattle.std.proofs.lemmas.List.{length-map}
use Rattle.cell_values.specs.declared.datum.Cell.{Cell}
use Rattle.cell_values.specs.declared.datum.Row.{Row}
use Rattle.cell_values.specs.declared.schema.Bounds.{Bounds}
use Rattle.cell_values.specs.declared.schema.Dimension.{Dimension}
use Rattle.cell_values.specs.declared.schema.Schema.{Schema}
use Rattle.cell_values.specs.Schemas.{IsValid}
use Rattle.array_rows.specs.Boxes.{is_inside, within, bounds_of}
use Rattle.array_rows.specs.Cellwise.{cell_wise, put_first}
use Rattle.array_rows.specs.Rows.{Coordinate}
use Rattle.array_rows.proofs.RowsLemmas.{within-cell_wise}
use Rattle.array_geom.specs.Geometry.{ChunkNumber, chunk_of, first_in, last_in, core, core_meets, frame, overlaps}
use Rattle.array_geom.specs.Link.{is_not_empty, has_cell}
use Rattle.array_geom.specs.Inner.Ranges.{AreNear}
use Rattle.array_geom.proofs.CoreLaws.{core_has, length-chunk_of}
use Rattle.array_geom.proofs.LinkLaws.{within-within}
use Rattle.array_geom.proofs.NearLemmas.{near_slice}
use Rattle.logical_plan.specs.declared.parts.Aggregate.{Aggregate}
use Rattle.logical_plan.specs.declared.parts.Leaf.{Leaf}
use Rattle.logical_plan.specs.declared.parts.Reach.{Reach}
use Rattle.logical_plan.specs.CellOps.{filter_cell, filter_rows, apply_cell, apply_rows, project_cell, project_rows}
use Rattle.logical_plan.specs.Groups.{window, window_cell, window_rows}
use Rattle.logical_plan.specs.PlanSchema.{schema_of}
use Rattle.logical_plan.specs.Query.{Query, built, listed, scanned, filtered, applied, projected, between, subarray, sliced, joined, crossed, redimensioned, regridded, windowed, aggregated}
use Rattle.logical_plan.specs.Query.{sorted, ranked, cumulated, transposed, reversed, unpacked, xgridded, merged, concatenated}
use Rattle.logical_plan.specs.Typing.{IsTyped, is_box_of}
use Rattle.logical_plan.proofs.BuiltRows.{all-follows}
use Rattle.plan_needs.specs.Needs.{is_scan}
use Rattle.plan_needs.specs.Sides.{Sides, box_of, of_between, is_near, are_near}
use Rattle.plan_needs.specs.Wanted.{is_wanted, HaveAlike}
use Rattle.plan_needs.proofs.BoxSides.{between_length}
use Rattle.plan_needs.proofs.AlikeScans.{chunk_meets}
use Rattle.plan_needs.proofs.AlikeSteps.{box_shared}
use Rattle.plan_needs.proofs.AlikeWindows.{changed_where, same_window}
use Rattle.plan_needs.proofs.BoxLaws.{held}
use Rattle.plan_needs.proofs.Inside.{side_parts, side_from}
use Rattle.plan_needs.proofs.RowLists.{all_where, all_tested}

-- ---- a scan under operators that keep places

-- the leaf of a scan, and what it makes of the leaf's rows
abbrev pub leaf_under : Query → Leaf → Leaf
leaf_under (scanned leaf) other = leaf
leaf_under (filtered source test) other = leaf_under source other
leaf_under (applied source values) other = leaf_under source other
leaf_under (projected source places) other = leaf_under source other
leaf_under (between source area) other = leaf_under source other
leaf_under query other = other

abbrev pub scan_rows : Query → List Row → List Row
scan_rows (filtered source test) rows = filter_rows test (scan_rows source rows)
scan_rows (applied source values) rows = apply_rows values (scan_rows source rows)
scan_rows (projected source places) rows = project_rows places (scan_rows source rows)
scan_rows (between source area) rows = within area (scan_rows source rows)
scan_rows query rows = rows

abbrev pub leaf_box : Query → Sides → Bounds
leaf_box (filtered source test) sides = leaf_box source sides
leaf_box (applied source values) sides = leaf_box source sides
leaf_box (projected source places) sides = leaf_box source sides
leaf_box (between source area) sides = leaf_box source (of_between area sides)
leaf_box query sides = box_of sides

-- ---- filters in either order

swapped_filters : {A : Type 0} (p q : A → Bool) (xs : List A) → filter p (filter q xs) ≡ filter q (filter p xs)
swapped_filters p q [] = refl
swapped_filters {A = A} p q (x ∷ xs) = by_tests (p x) (q x) refl refl (swapped_filters p q xs)
  where
    by_tests : (a b : Bool) → p x ≡ a → q x ≡ b → filter p (filter q xs) ≡ filter q (filter p xs) → filter p (cond b (x ∷ filter q xs) (filter q xs)) ≡ filter q (cond a (x ∷ filter p xs) (filter p xs))
    by_tests true true e f ih =
        ap (λ (t : Bool). cond t (x ∷ filter p (filter q xs)) (filter p (filter q xs))) e ∙ ap (λ (l : List A). x ∷ l) ih
        ∙ sym (ap (λ (t : Bool). cond t (x ∷ filter q (filter p xs)) (filter q (filter p xs))) f)
    by_tests true false e f ih = ih ∙ sym (ap (λ (t : Bool). cond t (x ∷ filter q (filter p xs)) (filter q (filter p xs))) f)
    by_tests false true e f ih = ap (λ (t : Bool). cond t (x ∷ filter p (filter q xs)) (filter p (filter q xs))) e ∙ ih
    by_tests false false e f ih = ih

-- a part of what is made of a scan is what is made of the part
pub scan_part : (query : Query) (w : Bounds) (rows : List Row) → is_scan query ≡ true → within w (scan_rows query rows) ≡ scan_rows query (within w rows)
scan_part (scanned leaf) w rows k = refl
scan_part (filtered source test) w rows k = within-cell_wise w (filter_cell test) (scan_rows source rows) ∙ ap (λ (l : List Row). filter_rows test l) (scan_part source w rows k)
scan_part (applied source values) w rows k = within-cell_wise w (apply_cell values) (scan_rows source rows) ∙ ap (λ (l : List Row). apply_rows values l) (scan_part source w rows k)
scan_part (projected source places) w rows k = within-cell_wise w (project_cell places) (scan_rows source rows) ∙ ap (λ (l : List Row). project_rows places l) (scan_part source w rows k)
scan_part (between source area) w rows k =
    swapped_filters (λ (row : Row). is_inside w row.at.items) (λ (row : Row). is_inside area row.at.items) (scan_rows source rows) ∙ ap (λ (l : List Row). within area l) (scan_part source w rows k)
scan_part (built schema e) w rows k = absurd (false≢true k)
scan_part (listed schema r) w rows k = absurd (false≢true k)
scan_part (subarray source area) w rows k = absurd (false≢true k)
scan_part (sliced source fixed) w rows k = absurd (false≢true k)
scan_part (joined left right schema) w rows k = absurd (false≢true k)
scan_part (crossed left right pairs schema) w rows k = absurd (false≢true k)
scan_part (redimensioned source schema gs) w rows k = absurd (false≢true k)
scan_part (regridded source sizes gs) w rows k = absurd (false≢true k)
scan_part (windowed source reach gs) w rows k = absurd (false≢true k)
scan_part (aggregated source gs places) w rows k = absurd (false≢true k)
scan_part (sorted source keys schema) w rows k = absurd (false≢true k)
scan_part (ranked source x dims) w rows k = absurd (false≢true k)
scan_part (cumulated source gs n) w rows k = absurd (false≢true k)
scan_part (transposed source) w rows k = absurd (false≢true k)
scan_part (reversed source) w rows k = absurd (false≢true k)
scan_part (unpacked source schema) w rows k = absurd (false≢true k)
scan_part (xgridded source sizes) w rows k = absurd (false≢true k)
scan_part (merged left right) w rows k = absurd (false≢true k)
scan_part (concatenated left right) w rows k = absurd (false≢true k)

-- ---- where the cells of a scan stand

changed_places : (Q : Coordinate → Type 0) (change : Coordinate → Cell → Option Cell) (rows : List Row) → AllByRecursion (λ row. Q row.at.items) rows → AllByRecursion (λ row. Q row.at.items) (cell_wise change rows)
changed_places Q change [] all = tt
changed_places Q change (row ∷ rows) all = here (change row.at.items row.cell) (changed_places Q change rows all.1)
  where
    here : (o : Option Cell) → AllByRecursion (λ r. Q r.at.items) (cell_wise change rows) → AllByRecursion (λ r. Q r.at.items) (put_first row.at.items o (cell_wise change rows))
    here None ih = ih
    here (Some cell) ih = (all.0, ih)

-- a cell in a chunk's core shows that the core has one
not_empty_at : (rows : List Row) → AllByRecursion (λ (row : Row). (t : Row → Bool) → t row ≡ true → is_not_empty (filter t rows) ≡ true) rows
not_empty_at [] = tt
not_empty_at (row ∷ rows) = (
  (λ t e. ap (λ (b : Bool). is_not_empty (cond b (row ∷ filter t rows) (filter t rows))) e),
  all-follows (λ (r : Row). (t : Row → Bool) → t r ≡ true → is_not_empty (filter t rows) ≡ true) (λ (r : Row). (t : Row → Bool) → t r ≡ true → is_not_empty (filter t (row ∷ rows)) ≡ true)
      (λ r h t e. longer t (t row) (h t e)) rows (not_empty_at rows),
)
  where
    longer : (t : Row → Bool) (b : Bool) → is_not_empty (filter t rows) ≡ true → is_not_empty (cond b (row ∷ filter t rows) (filter t rows)) ≡ true
    longer t true h = refl
    longer t false h = h

-- ---- frames

near_side : (d : Dimension) (r : Reach) (k : ℕ) (x y : ℤ) → r.before ≤ d.overlap → r.after ≤ d.overlap → first_in d k ≤ℤ x → x ≤ℤ int_min d.hi (last_in d k) → (x -ℤ pos r.before) ≤ℤ y → y ≤ℤ (x +ℤ pos r.after)
    → ((first_in d k -ℤ pos d.overlap) ≤ℤ y) × (y ≤ℤ (last_in d k +ℤ pos d.overlap))
near_side d r k x y b a f l g h = from_sides (first_in d k) (last_in d k) f l
  where
    from_sides : (first last : ℤ) → first ≤ℤ x → x ≤ℤ int_min d.hi last → ((first -ℤ pos d.overlap) ≤ℤ y) × (y ≤ℤ (last +ℤ pos d.overlap))
    from_sides first last p q = (omega (arith, ints), (let m : x ≤ℤ last = omega (arith, ints, clamps) in omega (arith, ints)))

window_in_frame : (dims : List Dimension) (reach : List Reach) (k : ChunkNumber) (c z : Coordinate) → are_near reach dims ≡ true → length reach ≡ length dims → is_inside (core dims k) c ≡ true → is_inside (window reach c) z ≡ true
    → is_inside (frame dims (overlaps dims) k) z ≡ true
window_in_frame [] [] k [] [] n len e f = refl
window_in_frame [] [] k [] (y ∷ z) n len e f = absurd (false≢true f)
window_in_frame [] [] k (x ∷ c) z n len e f = absurd (false≢true e)
window_in_frame [] (r ∷ reach) k c z n len e f = absurd (omega arith)
window_in_frame (d ∷ dims) [] k c z n len e f = absurd (omega arith)
window_in_frame (d ∷ dims) (r ∷ reach) [] [] [] n len e f = refl
window_in_frame (d ∷ dims) (r ∷ reach) [] [] (y ∷ z) n len e f = absurd (false≢true f)
window_in_frame (d ∷ dims) (r ∷ reach) [] (x ∷ c) z n len e f = absurd (false≢true e)
window_in_frame (d ∷ dims) (r ∷ reach) (k ∷ ks) [] z n len e f = absurd (false≢true e)
window_in_frame (d ∷ dims) (r ∷ reach) (k ∷ ks) (x ∷ c) [] n len e f = absurd (false≢true f)
window_in_frame (d ∷ dims) (r ∷ reach) (k ∷ ks) (x ∷ c) (y ∷ z) n len e f =
    let a = and_parts (is_near r d) (are_near reach dims) n in
    let b = and_parts (nat_le r.before d.overlap) (nat_le r.after d.overlap) a.0 in
    let p = side_parts (first_in d k) (int_min d.hi (last_in d k)) x (is_inside (core dims ks) c) e in
    let w = side_parts (x -ℤ pos r.before) (x +ℤ pos r.after) y (is_inside (window reach c) z) f in
    let t = near_side d r k x y (leb-true r.before d.overlap b.0) (leb-true r.after d.overlap b.1) p.0 p.1 w.0 w.1 in
    side_from (first_in d k -ℤ pos d.overlap) (last_in d k +ℤ pos d.overlap) y _ t.0 t.1 (window_in_frame dims reach ks c z a.1 (omega arith) p.2 w.2)

-- ---- windows of two databases

-- a place of a cell of a scan: its chunk has a cell, and in the box it lies in the leaf's box
pub record IsPlace (query : Query) (sides : Sides) (dims : List Dimension) (rows : List Row) (c : Coordinate) : Type 0 where
  pub inside : is_inside (bounds_of dims) c ≡ true
  pub has : has_cell dims rows (chunk_of dims c) ≡ true
  pub boxed : is_inside (box_of sides) c ≡ true → is_inside (leaf_box query sides) c ≡ true

windows_at : (schema : Schema) (query : Query) (sides : Sides) (reach : List Reach) (a b : List Row) (c : Coordinate) → is_scan query ≡ true → IsValid schema → are_near reach schema.dimensions ≡ true → length reach ≡ length schema.dimensions
    → HaveAlike schema.dimensions (leaf_box query sides) a b → IsPlace query sides schema.dimensions a c → is_inside (box_of sides) c ≡ true
    → within (window reach c) (scan_rows query a) ≡ within (window reach c) (scan_rows query b)
windows_at schema query sides reach a b c k valid n len h place in_box =
    let dims : List Dimension = schema.dimensions in
    let long : length (chunk_of dims c) ≡ length dims = length-chunk_of dims c place.inside in
    let in_core : is_inside (core dims (chunk_of dims c)) c ≡ true = core_has dims c (near_slice schema dims refl valid) place.inside in
    let meets : core_meets dims (leaf_box query sides) (chunk_of dims c) ≡ true = chunk_meets dims (leaf_box query sides) (chunk_of dims c) c in_core (place.boxed in_box) in
    let wanted : is_wanted dims a (leaf_box query sides) (chunk_of dims c) ≡ true = and_from (has_cell dims a (chunk_of dims c)) (core_meets dims (leaf_box query sides) (chunk_of dims c)) place.has meets in
    let frames = h.cells (chunk_of dims c) long wanted in
    let in_frame : (z : Coordinate) → is_inside (window reach c) z ≡ true → is_inside (frame dims (overlaps dims) (chunk_of dims c)) z ≡ true = λ z f. window_in_frame dims reach (chunk_of dims c) c z n len in_core f in
    let parts : within (window reach c) a ≡ within (window reach c) b =
    sym (within-within (window reach c) (frame dims (overlaps dims) (chunk_of dims c)) a in_frame) ∙ ap (λ (l : List Row). within (window reach c) l) frames ∙ within-within (window reach c) (frame dims (overlaps dims) (chunk_of dims c)) b in_frame in
    scan_part query (window reach c) a k ∙ ap (λ (l : List Row). scan_rows query l) parts ∙ sym (scan_part query (window reach c) b k)

pub alike_near : (schema : Schema) (query : Query) (sides : Sides) (reach : List Reach) (gs : List Aggregate) (a b : List Row) → is_scan query ≡ true → IsValid schema → are_near reach schema.dimensions ≡ true → length reach ≡ length schema.dimensions
    → HaveAlike schema.dimensions (leaf_box query sides) a b → AllByRecursion (λ row. IsPlace query sides schema.dimensions a row.at.items) (scan_rows query a)
    → within (box_of sides) (scan_rows query a) ≡ within (box_of sides) (scan_rows query b)
    → within (box_of sides) (window_rows reach gs (scan_rows query a)) ≡ within (box_of sides) (window_rows reach gs (scan_rows query b))
alike_near schema query sides reach gs a b k valid n len h places same =
    let ra : List Row = scan_rows query a in
    let rb : List Row = scan_rows query b in
    within-cell_wise (box_of sides) (window_cell reach gs ra) ra
    ∙ changed_where (λ (row : Row). IsPlace query sides schema.dimensions a row.at.items) (is_inside (box_of sides)) (window_cell reach gs ra) (window_cell reach gs rb)
    (λ row place e. same_window reach gs ra rb row.at.items row.cell (windows_at schema query sides reach a b row.at.items k valid n len h place e)) ra places
    ∙ ap (λ (l : List Row). cell_wise (window_cell reach gs rb) l) same
    ∙ sym (within-cell_wise (box_of sides) (window_cell reach gs rb) rb)

-- ---- places of all cells of a scan

-- a coordinate in a box and in an area is in what a between needs
in_both : (s : Schema) (sides : Sides) (area : Bounds) (c : Coordinate) → length sides ≡ length s.dimensions → IsTrue (is_box_of s area) → is_inside (box_of sides) c ≡ true → is_inside area c ≡ true → is_inside (box_of (of_between area sides)) c ≡ true
in_both s sides area c e t f g =
    let both = and_parts (length area.lo.items == length s.dimensions) (length area.hi.items == length s.dimensions) t in
    let low : length area.lo.items ≡ length s.dimensions = eqb-true (length area.lo.items) (length s.dimensions) both.0 in
    let high : length area.hi.items ≡ length s.dimensions = eqb-true (length area.hi.items) (length s.dimensions) both.1 in
    let firsts : length (box_of sides).lo.items ≡ length s.dimensions = length-map sides (λ x. x.first) ∙ e in
    let lasts : length (box_of sides).hi.items ≡ length s.dimensions = length-map sides (λ x. x.last) ∙ e in
    subst (λ (b : Bounds). is_inside b c ≡ true) (sym (box_shared sides area (high ∙ sym low)))
    (held (box_of sides).lo.items (box_of sides).hi.items area.lo.items area.hi.items c (lasts ∙ sym firsts) (low ∙ sym firsts) (high ∙ sym firsts)
    ∙ and_from (is_inside (box_of sides) c) (is_inside area c) f g)

pub leaf_places : (dims : List Dimension) (rows : List Row) → AreNear dims → AllByRecursion (λ row. IsTrue (is_inside (bounds_of dims) row.at.items)) rows
    → AllByRecursion (λ row. (is_inside (bounds_of dims) row.at.items ≡ true) × (has_cell dims rows (chunk_of dims row.at.items) ≡ true)) rows
leaf_places dims rows near all =
    each_hold rows all (not_empty_at rows)
  where
    each_hold : (some : List Row) → AllByRecursion (λ row. IsTrue (is_inside (bounds_of dims) row.at.items)) some → AllByRecursion (λ (row : Row). (t : Row → Bool) → t row ≡ true → is_not_empty (filter t rows) ≡ true) some
        → AllByRecursion (λ row. (is_inside (bounds_of dims) row.at.items ≡ true) × (has_cell dims rows (chunk_of dims row.at.items) ≡ true)) some
    each_hold [] i h = tt
    each_hold (row ∷ some) i h = ((i.0, h.0 (λ (r : Row). is_inside (core dims (chunk_of dims row.at.items)) r.at.items) (core_has dims row.at.items near i.0)), each_hold some i.1 h.1)

both_hold : (source : Query) (area : Bounds) (sides : Sides) (dims : List Dimension) (rows : List Row) → IsTrue (is_box_of (schema_of source) area) → length sides ≡ length (schema_of source).dimensions → (some : List Row)
    → AllByRecursion (λ row. IsPlace source (of_between area sides) dims rows row.at.items) some → AllByRecursion (λ row. is_inside area row.at.items ≡ true) some → AllByRecursion (λ row. IsPlace (between source area) sides dims rows row.at.items) some
both_hold source area sides dims rows t e [] p q = tt
both_hold source area sides dims rows t e (row ∷ some) p q =
    (record { inside = p.0.inside; has = p.0.has; boxed = λ f. p.0.boxed (in_both (schema_of source) sides area row.at.items e t f q.0) }, both_hold source area sides dims rows t e some p.1 q.1)

pub scan_places : (query : Query) (sides : Sides) (dims : List Dimension) (rows : List Row) → is_scan query ≡ true → IsTyped query → length sides ≡ length (schema_of query).dimensions
    → AllByRecursion (λ row. (is_inside (bounds_of dims) row.at.items ≡ true) × (has_cell dims rows (chunk_of dims row.at.items) ≡ true)) rows
    → AllByRecursion (λ row. IsPlace query sides dims rows row.at.items) (scan_rows query rows)
scan_places (scanned leaf) sides dims rows k t e all =
    all-follows (λ (row : Row). (is_inside (bounds_of dims) row.at.items ≡ true) × (has_cell dims rows (chunk_of dims row.at.items) ≡ true)) (λ (row : Row). IsPlace (scanned leaf) sides dims rows row.at.items)
    (λ row h. record { inside = h.0; has = h.1; boxed = λ f. f }) rows all
scan_places (filtered source test) sides dims rows k t e all =
    all-follows (λ (row : Row). IsPlace source sides dims rows row.at.items) (λ (row : Row). IsPlace (filtered source test) sides dims rows row.at.items) (λ row h. record { inside = h.inside; has = h.has; boxed = h.boxed }) (filter_rows test (scan_rows source rows))
    (changed_places (IsPlace source sides dims rows) (filter_cell test) (scan_rows source rows) (scan_places source sides dims rows k t.0 e all))
scan_places (applied source values) sides dims rows k t e all =
    all-follows (λ (row : Row). IsPlace source sides dims rows row.at.items) (λ (row : Row). IsPlace (applied source values) sides dims rows row.at.items) (λ row h. record { inside = h.inside; has = h.has; boxed = h.boxed }) (apply_rows values (scan_rows source rows))
    (changed_places (IsPlace source sides dims rows) (apply_cell values) (scan_rows source rows) (scan_places source sides dims rows k t.0 e all))
scan_places (projected source places) sides dims rows k t e all =
    all-follows (λ (row : Row). IsPlace source sides dims rows row.at.items) (λ (row : Row). IsPlace (projected source places) sides dims rows row.at.items) (λ row h. record { inside = h.inside; has = h.has; boxed = h.boxed }) (project_rows places (scan_rows source rows))
    (changed_places (IsPlace source sides dims rows) (project_cell places) (scan_rows source rows) (scan_places source sides dims rows k t.0 e all))
scan_places (between source area) sides dims rows k t e all =
    let narrow : Sides = of_between area sides in
    both_hold source area sides dims rows t.1 e (within area (scan_rows source rows))
    (all_where (λ (row : Row). IsPlace source narrow dims rows row.at.items) (λ (row : Row). is_inside area row.at.items) (scan_rows source rows) (scan_places source narrow dims rows k t.0 (between_length (schema_of source) sides area e t.1) all))
    (all_tested (λ (row : Row). is_inside area row.at.items) (scan_rows source rows))
scan_places (built schema v) sides dims rows k t e all = absurd (false≢true k)
scan_places (listed schema r) sides dims rows k t e all = absurd (false≢true k)
scan_places (subarray source area) sides dims rows k t e all = absurd (false≢true k)
scan_places (sliced source fixed) sides dims rows k t e all = absurd (false≢true k)
scan_places (joined left right schema) sides dims rows k t e all = absurd (false≢true k)
scan_places (crossed left right pairs schema) sides dims rows k t e all = absurd (false≢true k)
scan_places (redimensioned source schema gs) sides dims rows k t e all = absurd (false≢true k)
scan_places (regridded source sizes gs) sides dims rows k t e all = absurd (false≢true k)
scan_places (windowed source reach gs) sides dims rows k t e all = absurd (false≢true k)
scan_places (aggregated source gs places) sides dims rows k t e all = absurd (false≢true k)
scan_places (sorted source keys schema) sides dims rows k t e all = absurd (false≢true k)
scan_places (ranked source x named) sides dims rows k t e all = absurd (false≢true k)
scan_places (cumulated source gs n) sides dims rows k t e all = absurd (false≢true k)
scan_places (transposed source) sides dims rows k t e all = absurd (false≢true k)
scan_places (reversed source) sides dims rows k t e all = absurd (false≢true k)
scan_places (unpacked source schema) sides dims rows k t e all = absurd (false≢true k)
scan_places (xgridded source sizes) sides dims rows k t e all = absurd (false≢true k)
scan_places (merged left right) sides dims rows k t e all = absurd (false≢true k)
scan_places (concatenated left right) sides dims rows k t e all = absurd (false≢true k)
