use Rattle.std.proofs.Common.{take}
use Rattle.chunk_cells.specs.Inner.Numbers.{NameCores}
use Rattle.chunk_cells.proofs.assembly.numbers.numbers_of.Given as goal

abbrev pub invariant-loop-row : goal.invariant-loop-row
invariant-loop-row l = NameCores l.schema.dimensions (take l.row-index l.rows) l.found
