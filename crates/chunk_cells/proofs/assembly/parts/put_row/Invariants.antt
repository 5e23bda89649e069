use Rattle.std.proofs.Common.{◌≡◌, ◌-◌, length}
use Rattle.array_geom.specs.Link.{numbers}
use Rattle.chunk_cells.specs.Inner.Numbers.{numbers_in}
use Rattle.chunk_cells.proofs.PartLaws.{TakenUpTo}
use Rattle.chunk_cells.proofs.assembly.parts.put_row.Given as goal

abbrev pub invariant-loop-index : goal.invariant-loop-index
invariant-loop-index l = record {
  same : numbers l.chunks.items ≡ numbers_in l.listed;
  taken : TakenUpTo l.schema l.margins.items l.row l.index l.initial.chunks.items l.chunks.items;
}

abbrev pub decreases-loop-index : goal.decreases-loop-index
decreases-loop-index l = length l.listed - l.index
