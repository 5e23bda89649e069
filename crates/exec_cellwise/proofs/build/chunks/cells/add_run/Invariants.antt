use Rattle.std.proofs.Common.{◌≡◌, ◌++◌, [], ◌∷◌, length, take}
use Rattle.std.specs.List.{flat_map}
use Rattle.logical_plan.specs.Meaning.{count_from}
use Rattle.exec_cellwise.specs.Inner.Rows.{built_row}
use Rattle.exec_cellwise.specs.Inner.Walks.{TakesRows}
use Rattle.exec_cellwise.proofs.build.chunks.cells.add_run.Given as goal

abbrev pub invariant-loop-offset : goal.invariant-loop-offset
invariant-loop-offset l = record {
  begins : take (length l.at.items) l.next.items ≡ l.at.items;
  takes : TakesRows l.grid.low.items l.grid.lengths.items (flat_map (λ x. built_row l.attributes l.value (l.at.items ++ x ∷ []) ∷ []) (count_from l.low l.offset)) l.initial.chunk l.chunk;
}
