-- The groups of a chunk's core by the places of a grid.
use Rattle.std.proofs.Common.{◌≡◌, ℕ, ◌<◌, ◌^◌, false, List, [], ◌∷◌, length, get_or, Ok, sym, ap, ◌∙◌, subst, arith}
use Rattle.std.proofs.lemmas.List.{take_all}
use Rattle.cell_values.specs.declared.datum.Row.{Row}
use Rattle.cell_values.specs.declared.schema.Bounds.{Bounds}
use Rattle.cell_values.specs.declared.schema.Schema.{Schema}
use Rattle.array_rows.specs.Boxes.{within}
use Rattle.array_rows.specs.Rows.{IsRising}
use Rattle.array_geom.specs.declared.chunk.Chunk.{Chunk}
use Rattle.array_geom.specs.declared.grid.Grid.{Grid}
use Rattle.array_geom.specs.Geometry.{core, frame_low, frame_lengths}
use Rattle.array_geom.specs.Link.{chunk_rows, core_rows}
use Rattle.chunk_cells.proofs.MergeLaws.{put_all-none}
use Rattle.logical_plan.specs.declared.parts.Aggregate.{Aggregate}
use Rattle.logical_plan.specs.Groups.{cells_of}
use Rattle.logical_plan.specs.Redimension.{Origin}
use Rattle.group_rows.specs.declared.rows.groups.Groups.{Groups}
use Rattle.group_rows.specs.Grouped.{AreGroupsOf}
use Rattle.group_rows.proofs.PlaceLaws.{cells_of_rows, length_rows}
use Rattle.redimension_exec.specs.Inner.Bands.{AreBands}
use Rattle.redimension_exec.specs.Inner.Counting.{has_counted}
use Rattle.redimension_exec.specs.Inner.Dense.{AreTargetsIn, landed_there}
use Rattle.redimension_exec.specs.Inner.Grouping.{AreGroupsLanded, landed_sets}
use Rattle.redimension_exec.proofs.TargetLaws.{as_many_targets, rows_inside, rows_landed}

module _ (source : Schema) (margins : List ℕ) (chunk : Chunk) (origins : List Origin) (bounds : Bounds) (grid : Grid) (targets : List ℕ) (bands : AreBands source margins (chunk ∷ []))
    (are : AreTargetsIn source.dimensions margins chunk origins bounds grid targets) where
  abbrev all_rows : List Row
  all_rows = chunk_rows source.dimensions margins chunk

  in_core : within (core source.dimensions chunk.at.items) all_rows ≡ all_rows
  in_core = rows_inside (core source.dimensions chunk.at.items) origins bounds grid all_rows targets are

  pub rows_rise : IsRising (chunk_rows source.dimensions margins chunk)
  rows_rise = subst IsRising in_core bands.cores.0

  pub same_rows : core_rows source.dimensions margins (chunk ∷ []) ≡ chunk_rows source.dimensions margins chunk
  same_rows = put_all-none (within (core source.dimensions chunk.at.items) all_rows) bands.cores.0 ∙ in_core

  pub same_cells : cells_of (chunk_rows source.dimensions margins chunk) ≡ chunk.cells
  same_cells =
      let each = bands.places.all.0.placed.each in
      cells_of_rows (frame_low source.dimensions margins chunk.at.items) (frame_lengths source.dimensions margins) chunk.positions chunk.cells (omega (arith, each))
      ∙ take_all (length chunk.positions) chunk.cells (omega (arith, each))

  pub many_targets : length targets ≡ length (chunk_rows source.dimensions margins chunk)
  many_targets = as_many_targets (core source.dimensions chunk.at.items) origins bounds grid all_rows targets are

  pub as_many_cells : length chunk.cells ≡ length targets
  as_many_cells =
      let each = bands.places.all.0.placed.each in
      let long = length_rows (frame_low source.dimensions margins chunk.at.items) (frame_lengths source.dimensions margins) chunk.positions chunk.cells (omega (arith, each)) in
      each ∙ sym long ∙ sym many_targets

  pub few_targets : length targets < 2 ^ 63
  few_targets = let few = bands.counted in let same = ap length same_rows in let many = many_targets in omega (arith, few, same, many)

  pub groups_landed : (gs : List Aggregate) (groups : Groups) → has_counted origins ≡ false → AreGroupsOf gs (landed_sets (landed_there grid targets (chunk_rows source.dimensions margins chunk))) groups.groups
      → AreGroupsLanded gs origins bounds (core_rows source.dimensions margins (chunk ∷ [])) (Ok groups)
  groups_landed gs groups plain h =
      subst (λ (rows : List Row). AreGroupsLanded gs origins bounds rows (Ok groups)) (sym same_rows)
      (landed_there grid targets all_rows, rows_landed (core source.dimensions chunk.at.items) origins bounds grid plain all_rows targets [] are, h)

pub one_chunk : (chunk : Chunk) (chunks : List Chunk) → length chunks ≡ 1 → chunk ≡ get_or chunks 0 chunk → chunk ∷ [] ≡ chunks
one_chunk chunk [] l e = absurd (omega (arith, l))
one_chunk chunk (x ∷ []) l e = ap (λ (c : Chunk). c ∷ []) e
one_chunk chunk (x ∷ y ∷ chunks) l e = absurd (omega (arith, l))
