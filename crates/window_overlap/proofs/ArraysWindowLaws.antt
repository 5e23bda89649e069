-- The windows of an array are rows of their schema.
use Rattle.std.proofs.Common.{◌≡◌, ℕ, ◌+◌, ◌*◌, ◌<◌, ◌≤◌, ◌^◌, ◌&&◌, IsTrue, List, [], ◌∷◌, map, length, Option, Some, None, refl, sym, ap, ◌∙◌, subst, arith}
use Rattle.std.specs.Prelude.{nat_le, ◌==◌}
use Rattle.std.specs.List.{AllByRecursion}
use Rattle.std.proofs.lemmas.List.{length-map}
use Rattle.cell_values.specs.declared.datum.Cell.{Cell}
use Rattle.cell_values.specs.declared.datum.Cell.TheVariants.{Full, Doubt}
use Rattle.cell_values.specs.declared.datum.Row.{Row}
use Rattle.cell_values.specs.declared.schema.Attribute.{Attribute}
use Rattle.cell_values.specs.declared.schema.Schema.{Schema}
use Rattle.cell_values.specs.Cells.{is_of_kind, IsCellOf}
use Rattle.cell_values.specs.Schemas.{IsValid}
use Rattle.array_rows.specs.Arrays.{AreRowsOf}
use Rattle.array_rows.specs.Boxes.{is_inside, within, bounds_of}
use Rattle.array_rows.specs.Cellwise.{put_first, cell_wise}
use Rattle.array_rows.specs.Rows.{Coordinate}
use Rattle.array_rows.proofs.RowsLemmas.{IsRising-cell_wise}
use Rattle.array_geom.proofs.NearLemmas.{valid_placed}
use Rattle.array_geom.proofs.TestLaws.{and_parts, at_most}
use Rattle.array_parts.proofs.PartLemmas.{all_kept}
use Rattle.logical_plan.specs.declared.parts.Aggregate.{Aggregate}
use Rattle.logical_plan.specs.declared.parts.Reach.{Reach}
use Rattle.logical_plan.specs.Groups.{aggregate_of, cells_of, window, window_cell, window_rows}
use Rattle.logical_plan.specs.PlanSchema.{aggregate_kind, window_schema}
use Rattle.logical_plan.specs.Typing.{is_aggregate_of, are_aggregates_of, are_windows_of, kinds_of, window_size, reached_size}
use Rattle.group_rows.proofs.KindLaws.{aggregate_has_kind, kinds_for}
use Rattle.group_rows.proofs.InsideLaws.{kinds_told}
use Rattle.window_overlap.specs.Reaches.{AreShort, HaveLowPlaces, CanAggregate}
use Rattle.window_overlap.proofs.PartLaws.{low_places}
use Rattle.window_overlap.proofs.ChunksWindowLaws.{part_no_longer}

-- ---- the cells of windows

all_cells : (attributes : List Attribute) (rows : List Row) → AllByRecursion (λ row. IsCellOf attributes row.cell) rows → AllByRecursion (IsCellOf attributes) (cells_of rows)
all_cells attributes [] h = tt
all_cells attributes (row ∷ rows) h = (h.0, all_cells attributes rows h.1)

each_kind : (attributes : List Attribute) (gs : List Aggregate) (rows : List Row) → IsTrue (are_aggregates_of attributes gs) → AllByRecursion (λ row. IsCellOf attributes row.cell) rows → length rows < 9223372036854775808
    → AllByRecursion (λ g. IsTrue (is_of_kind (aggregate_kind attributes g) (aggregate_of g (cells_of rows)))) gs
each_kind attributes [] rows t k few = tt
each_kind attributes (g ∷ gs) rows t k few =
    let typed = and_parts (is_aggregate_of attributes g) (are_aggregates_of attributes gs) t in
    let same = length-map rows (λ (row : Row). row.cell) in
    (aggregate_has_kind attributes g (cells_of rows) typed.0 (all_cells attributes rows k) (omega (arith, same, few)), each_kind attributes gs rows typed.1 k few)

all_made : (P : Coordinate → Cell → Type 0) (Q : Row → Type 0) (change : Coordinate → Cell → Option Cell) (rows : List Row) → ((row : Row) (cell : Cell) → Q row → change row.at.items row.cell ≡ Some cell → P row.at.items cell)
    → AllByRecursion Q rows → AllByRecursion (λ row. P row.at.items row.cell) (cell_wise change rows)
all_made P Q change [] h a = tt
all_made P Q change (row ∷ rows) h a = cases (change row.at.items row.cell) refl (all_made P Q change rows h a.1)
  where
    cases : (o : Option Cell) → change row.at.items row.cell ≡ o → AllByRecursion (λ row. P row.at.items row.cell) (cell_wise change rows) → AllByRecursion (λ row. P row.at.items row.cell) (put_first row.at.items o (cell_wise change rows))
    cases None e r = r
    cases (Some cell) e r = (h row cell a.0 e, r)

abbrev the_cell : Cell → Option Cell → Cell
the_cell cell None = cell
the_cell cell (Some other) = other

window_kinds : (attributes : List Attribute) (reach : List Reach) (gs : List Aggregate) (rows : List Row) (targets : List Attribute) (c : Coordinate) (old cell : Cell) → kinds_of targets ≡ map (aggregate_kind attributes) gs
    → IsTrue (are_aggregates_of attributes gs) → AllByRecursion (λ row. IsCellOf attributes row.cell) rows → length rows < 9223372036854775808 → window_cell reach gs rows c old ≡ Some cell → IsCellOf targets cell
window_kinds attributes reach gs rows targets c (Doubt kind) cell kinds t k few e = subst (IsCellOf targets) (ap (the_cell cell) e) tt
window_kinds attributes reach gs rows targets c (Full vs) cell kinds t k few e =
    let some = within (window reach c) rows in
    let fewer = part_no_longer (λ row. is_inside (window reach c) row.at.items) rows in
    subst (IsCellOf targets) (ap (the_cell cell) e)
    (kinds_for attributes (λ g. aggregate_of g (cells_of some)) targets gs kinds (each_kind attributes gs some t (all_kept (λ row. IsCellOf attributes row.cell) (λ row. is_inside (window reach c) row.at.items) rows k) (omega (arith, fewer, few))))

-- the windows of an array's rows are rows of the schema of windows
pub windows_are_rows : (schema target : Schema) (reach : List Reach) (gs : List Aggregate) (rows windows : List Row) → AreRowsOf schema rows → target ≡ window_schema gs schema → IsValid target → IsTrue (are_aggregates_of schema.attributes gs)
    → length rows < 9223372036854775808 → windows ≡ window_rows reach gs rows → AreRowsOf target windows
windows_are_rows schema target reach gs rows windows are e valid typed few same =
    let change = window_cell reach gs rows in
    let kinds = ap (λ (s : Schema). kinds_of s.attributes) e ∙ kinds_told schema.attributes gs in
    subst (AreRowsOf target) (sym same) (record {
      valid = valid;
      are_rows = record {
        rising = IsRising-cell_wise change rows are.are_rows.rising;
        in_bounds = all_made (λ c cell. IsTrue (is_inside (bounds_of target.dimensions) c)) (λ row. IsTrue (is_inside (bounds_of schema.dimensions) row.at.items)) change rows
            (λ row cell h f. subst (λ (s : Schema). IsTrue (is_inside (bounds_of s.dimensions) row.at.items)) (sym e) h) are.are_rows.in_bounds;
      };
      kinds = all_made (λ c cell. IsCellOf target.attributes cell) (λ row. IsCellOf schema.attributes row.cell) change rows
          (λ row cell h f. window_kinds schema.attributes reach gs rows target.attributes row.at.items row.cell cell kinds typed are.kinds few f) are.kinds;
    })

-- ---- windows that are allowed

smaller : (x y limit : ℕ) → 0 < y → x * y ≤ limit → x ≤ limit
smaller x y limit p h = grind arith

some_places : (reach : List Reach) → 0 < window_size reach
some_places [] = omega arith
some_places (r ∷ reach) =
    let more = some_places reach in
    positive (r.before + r.after + 1) (window_size reach) (omega arith) more
  where
    positive : (x y : ℕ) → 0 < x → 0 < y → 0 < x * y
    positive x y p q = grind arith

all_short : (reach : List Reach) (limit : ℕ) → limit ≤ 2 ^ 48 → window_size reach ≤ limit → AreShort reach
all_short [] limit l h = tt
all_short (r ∷ reach) limit l h =
    let few = smaller (r.before + r.after + 1) (window_size reach) limit (some_places reach) h in
    let rest : window_size reach ≤ limit = no_more (r.before + r.after) (window_size reach) limit h in
    ((omega (arith, few, l), omega (arith, few, l)), all_short reach limit l rest)
  where
    no_more : (x y limit : ℕ) → (x + 1) * y ≤ limit → y ≤ limit
    no_more x y limit h = grind arith

pub short_windows : (schema : Schema) (reach : List Reach) → IsTrue (are_windows_of schema reach) → AreShort reach
short_windows schema reach w =
    let a = and_parts ((length reach == length schema.dimensions) && nat_le (window_size reach) 16777216) (nat_le (reached_size schema.dimensions reach) 281474976710656) w in
    let b = and_parts (length reach == length schema.dimensions) (nat_le (window_size reach) 16777216) a.0 in
    all_short reach 16777216 (omega arith) (at_most (window_size reach) 16777216 b.1)

pub low_rows : (schema : Schema) (rows : List Row) → AreRowsOf schema rows → HaveLowPlaces rows
low_rows schema rows are = low_places schema.dimensions rows (valid_placed schema are.valid).near are.are_rows.in_bounds

abbrev pub can_aggregate : (schema : Schema) (gs : List Aggregate) (rows : List Row) → AreRowsOf schema rows → IsTrue (are_aggregates_of schema.attributes gs) → CanAggregate gs rows
can_aggregate schema gs rows are typed = record { attributes = schema.attributes; typed = typed; cells = are.kinds }
