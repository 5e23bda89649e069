-- The aggregates along lines are rows of their schema.
use Rattle.std.proofs.Common.{◌≡◌, ℕ, suc, ◌<◌, ◌≤◌, Bool, true, false, cond, IsTrue, List, [], ◌∷◌, map, length, filter, Option, Some, None, refl, sym, ap, ◌∙◌, subst, arith}
use Rattle.std.specs.List.{AllByRecursion}
use Rattle.std.proofs.lemmas.List.{length-map}
use Rattle.cell_values.specs.declared.datum.Cell.{Cell}
use Rattle.cell_values.specs.declared.datum.Cell.TheVariants.{Full, Doubt}
use Rattle.cell_values.specs.declared.datum.Row.{Row}
use Rattle.cell_values.specs.declared.schema.Attribute.{Attribute}
use Rattle.cell_values.specs.declared.schema.Schema.{Schema}
use Rattle.cell_values.specs.Cells.{is_of_kind, IsCellOf}
use Rattle.cell_values.specs.Schemas.{IsValid}
use Rattle.array_rows.specs.Arrays.{AreRowsOf}
use Rattle.array_rows.specs.Boxes.{is_inside, bounds_of}
use Rattle.array_rows.specs.Cellwise.{put_first, cell_wise}
use Rattle.array_rows.specs.Rows.{Coordinate}
use Rattle.array_rows.proofs.RowsLemmas.{IsRising-cell_wise}
use Rattle.array_geom.proofs.TestLaws.{and_parts}
use Rattle.array_parts.proofs.PartLemmas.{all_kept}
use Rattle.logical_plan.specs.declared.parts.Aggregate.{Aggregate}
use Rattle.logical_plan.specs.Groups.{aggregate_of, cells_of}
use Rattle.logical_plan.specs.Ordered.{cumulate_cell, cumulate_rows, is_up_to, up_to}
use Rattle.logical_plan.specs.PlanSchema.{aggregate_kind, cumulate_schema}
use Rattle.logical_plan.specs.Typing.{is_aggregate_of, are_aggregates_of, kinds_of}
use Rattle.group_rows.proofs.KindLaws.{aggregate_has_kind, kinds_for}
use Rattle.group_rows.proofs.InsideLaws.{kinds_told}

part_no_longer : (test : Row → Bool) (rows : List Row) → length (filter test rows) ≤ length rows
part_no_longer test [] = omega arith
part_no_longer test (row ∷ rows) = cases (test row) (part_no_longer test rows)
  where
    cases : (b : Bool) → length (filter test rows) ≤ length rows → length (cond b (row ∷ filter test rows) (filter test rows)) ≤ suc (length rows)
    cases true l = omega (arith, l)
    cases false l = omega (arith, l)

all_cells : (attributes : List Attribute) (rows : List Row) → AllByRecursion (λ row. IsCellOf attributes row.cell) rows → AllByRecursion (IsCellOf attributes) (cells_of rows)
all_cells attributes [] h = tt
all_cells attributes (row ∷ rows) h = (h.0, all_cells attributes rows h.1)

each_kind : (attributes : List Attribute) (gs : List Aggregate) (rows : List Row) → IsTrue (are_aggregates_of attributes gs) → AllByRecursion (λ row. IsCellOf attributes row.cell) rows → length rows < 9223372036854775808
    → AllByRecursion (λ g. IsTrue (is_of_kind (aggregate_kind attributes g) (aggregate_of g (cells_of rows)))) gs
each_kind attributes [] rows t k few = tt
each_kind attributes (g ∷ gs) rows t k few =
    let typed = and_parts (is_aggregate_of attributes g) (are_aggregates_of attributes gs) t in
    let same = length-map rows (λ (row : Row). row.cell) in
    (aggregate_has_kind attributes g (cells_of rows) typed.0 (all_cells attributes rows k) (omega (arith, same, few)), each_kind attributes gs rows typed.1 k few)

pub all_made : (P : Coordinate → Cell → Type 0) (Q : Row → Type 0) (change : Coordinate → Cell → Option Cell) (rows : List Row) → ((row : Row) (cell : Cell) → Q row → change row.at.items row.cell ≡ Some cell → P row.at.items cell)
    → AllByRecursion Q rows → AllByRecursion (λ row. P row.at.items row.cell) (cell_wise change rows)
all_made P Q change [] h a = tt
all_made P Q change (row ∷ rows) h a = cases (change row.at.items row.cell) refl (all_made P Q change rows h a.1)
  where
    cases : (o : Option Cell) → change row.at.items row.cell ≡ o → AllByRecursion (λ row. P row.at.items row.cell) (cell_wise change rows) → AllByRecursion (λ row. P row.at.items row.cell) (put_first row.at.items o (cell_wise change rows))
    cases None e r = r
    cases (Some cell) e r = (h row cell a.0 e, r)

abbrev pub the_cell : Cell → Option Cell → Cell
the_cell cell None = cell
the_cell cell (Some other) = other

cumulated_kinds : (attributes : List Attribute) (n : ℕ) (gs : List Aggregate) (rows : List Row) (targets : List Attribute) (c : Coordinate) (old cell : Cell) → kinds_of targets ≡ map (aggregate_kind attributes) gs
    → IsTrue (are_aggregates_of attributes gs) → AllByRecursion (λ row. IsCellOf attributes row.cell) rows → length rows < 9223372036854775808 → cumulate_cell n gs rows c old ≡ Some cell → IsCellOf targets cell
cumulated_kinds attributes n gs rows targets c (Doubt kind) cell kinds t k few e = subst (IsCellOf targets) (ap (the_cell cell) e) tt
cumulated_kinds attributes n gs rows targets c (Full vs) cell kinds t k few e =
    let some = up_to n c rows in
    let fewer = part_no_longer (λ row. is_up_to n c row.at.items) rows in
    subst (IsCellOf targets) (ap (the_cell cell) e)
    (kinds_for attributes (λ g. aggregate_of g (cells_of some)) targets gs kinds (each_kind attributes gs some t (all_kept (λ row. IsCellOf attributes row.cell) (λ row. is_up_to n c row.at.items) rows k) (omega (arith, fewer, few))))

pub cumulated_are_rows : (schema target : Schema) (n : ℕ) (gs : List Aggregate) (rows made : List Row) → AreRowsOf schema rows → target ≡ cumulate_schema gs schema → IsValid target → IsTrue (are_aggregates_of schema.attributes gs)
    → length rows < 9223372036854775808 → made ≡ cumulate_rows n gs rows → AreRowsOf target made
cumulated_are_rows schema target n gs rows made are e valid typed few same =
    let change = cumulate_cell n gs rows in
    let kinds = ap (λ (s : Schema). kinds_of s.attributes) e ∙ kinds_told schema.attributes gs in
    subst (AreRowsOf target) (sym same) (record {
      valid = valid;
      are_rows = record {
        rising = IsRising-cell_wise change rows are.are_rows.rising;
        in_bounds = all_made (λ c cell. IsTrue (is_inside (bounds_of target.dimensions) c)) (λ row. IsTrue (is_inside (bounds_of schema.dimensions) row.at.items)) change rows
            (λ row cell h f. subst (λ (s : Schema). IsTrue (is_inside (bounds_of s.dimensions) row.at.items)) (sym e) h) are.are_rows.in_bounds;
      };
      kinds = all_made (λ c cell. IsCellOf target.attributes cell) (λ row. IsCellOf schema.attributes row.cell) change rows
          (λ row cell h f. cumulated_kinds schema.attributes n gs rows target.attributes row.at.items row.cell cell kinds typed are.kinds few f) are.kinds;
    })
