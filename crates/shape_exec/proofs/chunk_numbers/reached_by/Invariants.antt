use Rattle.std.proofs.Common.{take}
use Rattle.shape_exec.specs.Inner.Added.{HaveReached}
use Rattle.shape_exec.proofs.chunk_numbers.reached_by.Given as goal

abbrev pub invariant-loop-k : goal.invariant-loop-k
invariant-loop-k g l = HaveReached (g.M.CellMap.target l.map) (g.M.CellMap.back l.map) l.array.schema.dimensions l.array.margins.items (take l.k l.chunks) l.found
