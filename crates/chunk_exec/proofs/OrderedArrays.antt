-- Sorted, ranked and cumulated rows of an array are rows of their schemas.
use Rattle.std.proofs.Common.{◌≡◌, ℕ, IsTrue, List, length, Option, Some, None, Result, Ok, Err, refl}
use Rattle.std.specs.Prelude.{◌&&◌, IfOk, slice_get}
use Rattle.cell_values.specs.declared.datum.Broken.{Broken}
use Rattle.cell_values.specs.declared.datum.Row.{Row}
use Rattle.cell_values.specs.declared.schema.Schema.{Schema}
use Rattle.cell_values.specs.Schemas.{IsValid}
use Rattle.array_geom.proofs.TestLaws.{and_parts}
use Rattle.array_rows.specs.Arrays.{AreRowsOf}
use Rattle.array_rows.specs.Boxes.{bounds_of, within}
use Rattle.logical_plan.specs.declared.parts.Aggregate.{Aggregate}
use Rattle.logical_plan.specs.Faults.{and_then, if_whole}
use Rattle.logical_plan.specs.Groups.{cells_of, first_some}
use Rattle.logical_plan.specs.Ordered.{comes_first, cumulate_rows, numbered, rank_rows, sort_rows, sorted_by, unless_unsortable, unsortable_at}
use Rattle.logical_plan.specs.PlanSchema.{cumulate_schema, rank_schema, sort_schema}
use Rattle.logical_plan.specs.Typing.{are_aggregates_of, are_apart, are_below, can_be_ranked, ranks}
use Rattle.group_rows.proofs.CumulatedLaws.{cumulated_are_rows}
use Rattle.group_rows.proofs.RankedLaws.{ranked_are_rows}
use Rattle.group_rows.proofs.SortedLaws.{numbered_rises, sorted_kinds}
use Rattle.shape_rows.proofs.PullLaws.{part_is_array}
use Rattle.chunk_exec.specs.Counts.{CanCount, CanRank}
use Rattle.chunk_exec.proofs.GroupedRows.{counted}

pub sorted_array : (schema target : Schema) (keys : List ℕ) → target ≡ sort_schema schema → IsValid target → (r : Result (List Row) Broken) → IfOk r (AreRowsOf schema)
    → IfOk (if_whole (within (bounds_of target.dimensions)) (and_then (sort_rows keys) r)) (AreRowsOf target)
sorted_array schema target keys e valid (Err broken) is = is
sorted_array schema target keys e valid (Ok rows) is = cases (first_some (unsortable_at keys) rows)
  where
    cases : (o : Option Broken) → IfOk (if_whole (within (bounds_of target.dimensions)) (unless_unsortable o (numbered 0 (sorted_by (comes_first keys) (cells_of rows))))) (AreRowsOf target)
    cases None =
        part_is_array target (numbered 0 (sorted_by (comes_first keys) (cells_of rows))) valid (numbered_rises 0 (sorted_by (comes_first keys) (cells_of rows))) (sorted_kinds schema target keys rows is e)
    cases (Some broken) = tt

pub ranked_array : (schema : Schema) (x : ℕ) (dims : List ℕ) → IsTrue (ranks schema x dims) → IsValid (rank_schema x schema) → (r : Result (List Row) Broken) → IfOk r (AreRowsOf schema) → CanRank r
    → IfOk (if_whole (rank_rows x dims) r) (AreRowsOf (rank_schema x schema))
ranked_array schema x dims typed valid (Err broken) is few = is
ranked_array schema x dims typed valid (Ok rows) is few =
    let p = and_parts (can_be_ranked (slice_get schema.attributes x) && are_below (length schema.dimensions) dims) (are_apart dims) typed in
    let q = and_parts (can_be_ranked (slice_get schema.attributes x)) (are_below (length schema.dimensions) dims) p.0 in
    ranked_are_rows schema (rank_schema x schema) x dims rows (rank_rows x dims rows) is refl valid q.0 few refl

pub cumulated_array : (schema : Schema) (gs : List Aggregate) (n : ℕ) → IsTrue (are_aggregates_of schema.attributes gs) → IsValid (cumulate_schema gs schema) → (r : Result (List Row) Broken) → IfOk r (AreRowsOf schema) → CanCount gs r
    → IfOk (if_whole (cumulate_rows n gs) r) (AreRowsOf (cumulate_schema gs schema))
cumulated_array schema gs n typed valid r is few =
    counted schema gs schema.dimensions (cumulate_rows n gs) valid
    (λ rows are some. cumulated_are_rows schema (cumulate_schema gs schema) n gs rows (cumulate_rows n gs rows) are refl valid typed some refl) r is few
