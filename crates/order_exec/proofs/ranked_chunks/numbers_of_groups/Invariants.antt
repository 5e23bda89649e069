use Rattle.std.proofs.Common.{take}
use Rattle.order_exec.specs.Inner.RankedChunks.{HoldNumbers, rows_of_chunks}
use Rattle.order_exec.proofs.ranked_chunks.numbers_of_groups.Given as goal

abbrev pub invariant-loop-k : goal.invariant-loop-k
invariant-loop-k l = HoldNumbers l.ranking.attribute l.ranking.to.now.dims.now l.ranking.to.now.grid.now (rows_of_chunks l.ranking.schema.now.dimensions l.ranking.margins.now.items (take l.k l.chunks)) l.groups.items
