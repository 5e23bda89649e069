use Rattle.std.proofs.Common.{ℤ, length}
use Rattle.order_exec.specs.Inner.Counted.{number_cell}
use Rattle.order_exec.proofs.NumberedChunkLaws.{ChunksSoFar}
use Rattle.order_exec.proofs.number_chunks.number_chunks.Given as goal

abbrev pub invariant-cutting : goal.invariant-cutting
invariant-cutting l = ChunksSoFar ℤ l.target.dimensions l.target l.margins.items number_cell l.keys l.rest l.number l.chunks

abbrev pub decreases-cutting : goal.decreases-cutting
decreases-cutting l = length l.rest
