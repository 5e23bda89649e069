use Rattle.std.proofs.Common.{◌<◌, ◌≤◌, ◌^◌, List, length, map, sym, subst}
use Rattle.std.specs.Prelude.{IfOk}
use Rattle.cell_values.specs.declared.datum.Row.{Row}
use Rattle.array_rows.specs.Boxes.{bounds_of}
use Rattle.array_rows.specs.Rows.{IsRising}
use Rattle.chunk_cells.proofs.MergeLaws.{IsRising-core_rows}
use Rattle.logical_plan.specs.Redimension.{origin_of}
use Rattle.group_rows.specs.Counts.{cells_in}
use Rattle.redimension_exec.specs.Inner.Grouping.{AreGroupsLanded}
use Rattle.redimension_exec.proofs.arrays.bands.groups_in_band.Goals as goal

pub groups_landed-requires-clause-counted : goal.groups_landed-requires-clause-counted
groups_landed-requires-clause-counted c = subst (λ (rows : List Row). length rows < 2 ^ 63) (sym c.in_ok-rows.ensures) c.requires.bands.counted

pub groups_landed-requires-clause-rising : goal.groups_landed-requires-clause-rising
groups_landed-requires-clause-rising c = subst IsRising (sym c.in_ok-rows.ensures) (IsRising-core_rows c.args.source.now.dimensions c.args.margins.now.items c.args.chunks.now)

pub returns-clause-groups : goal.returns-clause-groups
returns-clause-groups c =
    subst (λ (rows : List Row). IfOk c.groups_landed.result (AreGroupsLanded c.args.aggregates.now (map (origin_of c.args.source.now) c.args.target.now.dimensions) (bounds_of c.args.target.now.dimensions) rows))
    c.in_ok-rows.ensures c.groups_landed.ensures.groups

pub returns-clause-cells : goal.returns-clause-cells
returns-clause-cells c =
    subst (λ (rows : List Row). IfOk c.groups_landed.result (λ made. IfOk made (λ groups. cells_in groups.groups ≤ length rows))) c.in_ok-rows.ensures c.groups_landed.ensures.cells
