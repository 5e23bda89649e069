use Rattle.std.specs.Vec.Iter.{into_iter_items}
use Rattle.chunk_workers.proofs.PieceLaws.{IsBegun}
use Rattle.chunk_workers.proofs.workers.all_joined.Given as goal

abbrev pub invariant-loop-part : goal.invariant-loop-part
invariant-loop-part g l = IsBegun l.fn.parts.items (into_iter_items l.part-iterator) l.all
