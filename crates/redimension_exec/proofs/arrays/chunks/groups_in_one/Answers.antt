use Rattle.std.proofs.Common.{◌≤◌, List, length, map, Ok, subst}
use Rattle.array_rows.specs.Boxes.{bounds_of}
use Rattle.array_geom.specs.declared.chunk.Chunk.{Chunk}
use Rattle.array_geom.specs.Link.{core_rows}
use Rattle.logical_plan.specs.Redimension.{origin_of}
use Rattle.group_rows.specs.Counts.{cells_in}
use Rattle.redimension_exec.specs.Inner.Grouping.{AreGroupsLanded}
use Rattle.redimension_exec.proofs.GridChunks.{one_chunk}
use Rattle.redimension_exec.proofs.arrays.chunks.groups_in_one.Goals as goal

pub returns-in-Some-clause-groups : goal.returns-in-Some-clause-groups
returns-in-Some-clause-groups c =
    let source = c.args.source.now in
    let target = c.args.target.now in
    subst (λ (chunks : List Chunk). AreGroupsLanded c.args.aggregates.now (map (origin_of source) target.dimensions) (bounds_of target.dimensions) (core_rows source.dimensions c.args.margins.now.items chunks) (Ok c.in-Some.groups))
    (one_chunk c.index-chunks-0.result c.args.chunks.now c.if-chunks-eq1.true c.index-chunks-0.is) (rw c.in-Some.is at c.in_ok-found.ensures.groups)

pub returns-in-Some-clause-cells : goal.returns-in-Some-clause-cells
returns-in-Some-clause-cells c =
    subst (λ (chunks : List Chunk). cells_in c.in-Some.groups.groups ≤ length (core_rows c.args.source.now.dimensions c.args.margins.now.items chunks))
    (one_chunk c.index-chunks-0.result c.args.chunks.now c.if-chunks-eq1.true c.index-chunks-0.is) (rw c.in-Some.is at c.in_ok-found.ensures.cells)
