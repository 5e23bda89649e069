use Rattle.std.proofs.Common.{None}
use Rattle.std.specs.List.{flat_map}
use Rattle.array_geom.specs.Link.{chunk_rows}
use Rattle.array_parts.specs.Placed.{HasPlaces}
use Rattle.chunk_exec.specs.Least.{least_from}
use Rattle.chunk_exec.proofs.Steps.{holds_next, next_chunk}
use Rattle.chunk_exec.proofs.rows.rows.faults.first.least_fault.Goals as goal

pub loop-chunk-preserved : goal.loop-chunk-preserved
loop-chunk-preserved c =
    let f = chunk_rows c.args.schema.now.dimensions c.args.margins.now.items in
    next_chunk f (HasPlaces c.args.schema.now c.args.margins.now.items) c.args.chunks.now c.loop-chunk.chunk-index c.chunk-item.result c.loop-chunk.least c.with_chunk-least.result (least_from None (flat_map f c.args.chunks.now))
    c.loop-chunk-test.true c.chunk-item.is c.loop-chunk.invariant.0 c.loop-chunk.invariant.1 c.with_chunk-least.ensures

pub with_chunk-least-requires : goal.with_chunk-least-requires
with_chunk-least-requires c =
    holds_next (HasPlaces c.args.schema.now c.args.margins.now.items) c.args.chunks.now c.loop-chunk.chunk-index c.chunk-item.result c.loop-chunk-test.true
    c.chunk-item.is c.loop-chunk.invariant.0
