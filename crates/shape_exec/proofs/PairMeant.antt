-- What operators give of two arrays that are not broken.
use Rattle.std.proofs.Common.{◌≡◌, List, None, Result, Ok, sym, ap, ◌∙◌}
use Rattle.cell_values.specs.declared.datum.Broken.{Broken}
use Rattle.cell_values.specs.declared.datum.Row.{Row}
use Rattle.cell_values.specs.declared.schema.Schema.{Schema}
use Rattle.array_rows.specs.Arrays.{Meant}
use Rattle.array_geom.specs.declared.chunk.ChunkedArray.{ChunkedArray}
use Rattle.array_parts.specs.Cores.{cores_of, meant_by_cores, unless_broken}
use Rattle.logical_plan.specs.Faults.{and_then, if_whole}
use Rattle.logical_plan.specs.Made.{made_of_two}

abbrev meant_of : Schema → Result (List Row) Broken → Meant
meant_of schema rows = record { schema = schema; rows = rows }

module _ (rows_of : List Row → List Row → List Row) (schema target : Schema) (left right : ChunkedArray) where
  pub both_whole : (rows : List Row) → target ≡ schema → left.broken ≡ None → right.broken ≡ None → rows ≡ rows_of (cores_of left) (cores_of right)
      → meant_of target (Ok rows) ≡ made_of_two schema rows_of (meant_by_cores left) (meant_by_cores right)
  both_whole rows s l r m =
      ap (λ (z : List Row). meant_of target (Ok z)) m
      ∙ (λ i. meant_of (s i) (and_then (λ a. if_whole (rows_of a) (unless_broken (sym r i) (cores_of right))) (unless_broken (sym l i) (cores_of left))))
