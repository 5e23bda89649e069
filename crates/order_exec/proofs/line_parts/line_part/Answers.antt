use Rattle.std.proofs.Common.{◌≤◌, length, IfOk, subst}
use Rattle.array_geom.specs.declared.chunk.Chunk.{Chunk}
use Rattle.group_rows.specs.Counts.{cells_in}
use Rattle.order_exec.specs.Inner.ByChunk.{rows_of_core}
use Rattle.order_exec.proofs.line_parts.line_part.Goals as goal

pub returns-clause-cells : goal.returns-clause-cells
returns-clause-cells c =
    subst (λ (chunk : Chunk). IfOk c.lines_of.result (λ part. cells_in part.lines ≤ length (rows_of_core c.args.schema.now.dimensions c.args.margins.now.items chunk))) c.in_ok-copy.ensures c.lines_of.ensures.cells
