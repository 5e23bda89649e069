use Rattle.std.proofs.Common.{◌≤◌, List, length, map, sym, subst}
use Rattle.std.specs.Prelude.{IfOk}
use Rattle.array_rows.specs.Boxes.{bounds_of}
use Rattle.array_geom.specs.declared.chunk.Chunk.{Chunk}
use Rattle.array_geom.specs.Link.{core_rows}
use Rattle.array_parts.specs.Cores.{cores_of}
use Rattle.array_parts.proofs.CoreLaws.{cores_are_rows}
use Rattle.area_cells.proofs.PieceLaws.{rise_in_cores}
use Rattle.logical_plan.specs.Redimension.{origin_of}
use Rattle.group_rows.specs.Counts.{cells_in}
use Rattle.redimension_exec.specs.Inner.Bands.{AreBands}
use Rattle.redimension_exec.specs.Inner.Grouping.{AreGroupsLanded}
use Rattle.redimension_exec.proofs.ArraysGatherLaws.{land_of, told_are, told_values}
use Rattle.redimension_exec.proofs.OrderLaws.{gathers}
use Rattle.redimension_exec.proofs.arrays.gathering.gathered_in_bands.Goals as goal

pub groups_of_cores-found-requires-clause-plain : goal.groups_of_cores-found-requires-clause-plain
groups_of_cores-found-requires-clause-plain c = (gathers c.args.array.now.schema c.args.target.now c.args.aggregates.now c.requires.some c.requires.typed).plain

pub groups_of_cores-found-requires-clause-bands : goal.groups_of_cores-found-requires-clause-bands
groups_of_cores-found-requires-clause-bands c =
    let array = c.args.array.now in
    subst (AreBands array.schema array.margins.items) (sym c.as_slice-chunks.ensures) (record {
      places = c.requires.cells.placed;
      cores = rise_in_cores array.schema array.margins.items array.chunks c.requires.cells;
      counted = c.requires.counted;
    })

pub returns-clause-values : goal.returns-clause-values
returns-clause-values c =
    let array = c.args.array.now in
    told_values array.schema c.args.target.now c.args.aggregates.now (cores_of array) (cores_are_rows array.schema array.margins.items array.chunks c.requires.cells) c.requires.valid
    (gathers array.schema c.args.target.now c.args.aggregates.now c.requires.some c.requires.typed) c.groups_of_cores-found.result c.told_of.result
    (land_of array.schema c.args.target.now c.args.aggregates.now c.in_ok-ordered.ordered c.as_slice.result.now (cores_of array) c.groups_of_cores-found.result c.as_slice.ensures c.in_ok-ordered.ensures
    (subst (λ (chunks : List Chunk). IfOk c.groups_of_cores-found.result (AreGroupsLanded c.as_slice.result.now (map (origin_of array.schema) c.args.target.now.dimensions) (bounds_of c.args.target.now.dimensions)
    (core_rows array.schema.dimensions array.margins.items chunks))) c.as_slice-chunks.ensures c.groups_of_cores-found.ensures.groups))
    c.told_of.ensures

pub returns-clause-rows : goal.returns-clause-rows
returns-clause-rows c =
    let array = c.args.array.now in
    told_are array.schema c.args.target.now c.args.aggregates.now (cores_of array) (cores_are_rows array.schema array.margins.items array.chunks c.requires.cells) c.requires.valid
    (gathers array.schema c.args.target.now c.args.aggregates.now c.requires.some c.requires.typed) c.groups_of_cores-found.result c.told_of.result
    (land_of array.schema c.args.target.now c.args.aggregates.now c.in_ok-ordered.ordered c.as_slice.result.now (cores_of array) c.groups_of_cores-found.result c.as_slice.ensures c.in_ok-ordered.ensures
    (subst (λ (chunks : List Chunk). IfOk c.groups_of_cores-found.result (AreGroupsLanded c.as_slice.result.now (map (origin_of array.schema) c.args.target.now.dimensions) (bounds_of c.args.target.now.dimensions)
    (core_rows array.schema.dimensions array.margins.items chunks))) c.as_slice-chunks.ensures c.groups_of_cores-found.ensures.groups))
    (subst (λ (chunks : List Chunk). IfOk c.groups_of_cores-found.result (λ some. IfOk some (λ groups. cells_in groups.groups ≤ length (core_rows array.schema.dimensions array.margins.items chunks)))) c.as_slice-chunks.ensures
    c.groups_of_cores-found.ensures.cells)
    c.requires.counted c.told_of.ensures
