use Rattle.std.proofs.Common.{List, rules}
use Rattle.std.proofs.lemmas.Cmp.{lists_total}
use Rattle.std.proofs.lemmas.Fn.{always_returns_same}
use Rattle.std.proofs.lemmas.List.Sorted.{ranks_by}
use Rattle.std.specs.List.Sorted.{IsSortedBy}
use Rattle.cell_values.specs.declared.datum.Cell.{Cell}
use Rattle.logical_plan.proofs.OrderLaws.{values_are_ordered}
use Rattle.logical_plan.specs.Ordered.{comes_first, keys_of}
use Rattle.order_exec.proofs.SortLaws.{stable_sort}
use Rattle.order_exec.proofs.sorted_cells.sort_by_threads.Goals as goal

pub returns : goal.returns
returns g c =
    let keys = c.args.keys.now in
    let order = ranks_by (lists_total values_are_ordered.0) (λ (cell : Cell). keys_of keys cell) in
    let sorted : List Cell = c.par_sort_by.new.s in
    let up : IsSortedBy (comes_first keys) sorted = c.in_ok-par_sort_by.ensures.sorted (comes_first keys) order (always_returns_same _ _ _ (λ a r f h. search rules)) in
    let stable = c.par_sort_by.ensures.stable (comes_first keys) order (always_returns_same _ _ _ (λ a r f h. search rules)) in
    stable_sort (comes_first keys) order c.args.cells.now sorted up stable
