use Rattle.std.proofs.Common.{take, subst}
use Rattle.array_geom.specs.Geometry.{ChunkNumber}
use Rattle.chunk_cells.specs.Inner.Numbers.{AreBefore}
use Rattle.chunk_cells.proofs.NextLaws.{all_skipped}
use Rattle.chunk_cells.proofs.assembly.parts.count_outside.Goals as goal

pub returns-clause-outside : goal.returns-clause-outside
returns-clause-outside c =
    let near = c.args.near.now in
    let later = c.args.later.now in
    let count = c.count_before.result in
    all_skipped near.low.items near.high.items c.args.last.now.items count later c.requires.in_order.0 (subst (λ (k : ChunkNumber). AreBefore k (take count later)) c.next_near.ensures c.count_before.ensures.before)
