use Rattle.std.proofs.Common.{◌+◌, ◌++◌, [], ◌∷◌, length}
use Rattle.std.specs.List.{flat_map}
use Rattle.logical_plan.specs.Meaning.{count_from}
use Rattle.exec_cellwise.specs.Inner.Rows.{built_row}
use Rattle.exec_cellwise.specs.Inner.Walks.{TakesRows, rows_between}
use Rattle.exec_cellwise.proofs.build.chunks.cells.+add_cells.Given as goal

abbrev pub decreases-add_cells : goal.decreases-add_cells
decreases-add_cells l = length l.lo.now + length l.lo.now + length l.lo.now

abbrev pub decreases-add_first : goal.decreases-add_first
decreases-add_first l = length l.lo.now + length l.lo.now + length l.lo.now + 2

abbrev pub decreases-add_along : goal.decreases-add_along
decreases-add_along l = length l.lo.now + length l.lo.now + length l.lo.now + 1

abbrev pub invariant-add_along-loop-offset : goal.invariant-add_along-loop-offset
invariant-add_along-loop-offset l =
    TakesRows l.grid.low.items l.grid.lengths.items (flat_map (λ x. rows_between (built_row l.attributes l.value) (l.at.items ++ x ∷ []) l.lo l.hi) (count_from l.low l.offset)) l.initial.chunk l.chunk
