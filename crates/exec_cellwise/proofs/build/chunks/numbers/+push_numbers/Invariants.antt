use Rattle.std.proofs.Common.{◌≡◌, ◌+◌, ◌++◌, [], ◌∷◌, length}
use Rattle.std.specs.List.{flat_map}
use Rattle.chunk_cells.specs.Inner.Numbers.{numbers_in}
use Rattle.exec_cellwise.specs.Inner.Walks.{below, numbers_under}
use Rattle.exec_cellwise.proofs.build.chunks.numbers.+push_numbers.Given as goal

abbrev pub decreases-push_numbers : goal.decreases-push_numbers
decreases-push_numbers l = length l.last.now + length l.last.now

abbrev pub decreases-push_along : goal.decreases-push_along
decreases-push_along l = length l.last.now + length l.last.now + 1

abbrev pub invariant-push_along-loop-k : goal.invariant-push_along-loop-k
invariant-push_along-loop-k l = numbers_in l.out ≡ numbers_in l.initial.out ++ flat_map (λ k. numbers_under (l.at.items ++ k ∷ []) l.last) (below l.k)
