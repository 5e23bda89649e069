use Rattle.std.proofs.Common.{take}
use Rattle.std.specs.List.{AllZip}
use Rattle.order_exec.specs.Inner.RankedChunks.{IsRanked}
use Rattle.order_exec.proofs.ranked_chunks.ranked_chunks.Given as goal

abbrev pub invariant-loop-k : goal.invariant-loop-k
invariant-loop-k l =
    AllZip (IsRanked l.ranking.attribute l.ranking.to.now.dims.now l.ranking.to.now.grid.now l.ranking.schema.now.dimensions l.ranking.margins.now.items l.groups) (take l.k l.chunks) l.made
