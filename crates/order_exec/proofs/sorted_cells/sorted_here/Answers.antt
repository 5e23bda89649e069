use Rattle.std.proofs.Common.{List, rules, subst, ◌∙◌}
use Rattle.std.proofs.lemmas.Cmp.{lists_total}
use Rattle.std.proofs.lemmas.Fn.{always_returns_same}
use Rattle.std.proofs.lemmas.List.Sorted.{ranks_by}
use Rattle.std.specs.List.Sorted.{IsSortedBy, IsStableBy}
use Rattle.cell_values.specs.declared.datum.Cell.{Cell}
use Rattle.logical_plan.proofs.OrderLaws.{values_are_ordered}
use Rattle.logical_plan.specs.Ordered.{comes_first, keys_of}
use Rattle.order_exec.proofs.SortLaws.{stable_sort}
use Rattle.order_exec.proofs.sorted_cells.sorted_here.Goals as goal

pub returns : goal.returns
returns c =
    let keys = c.args.keys.now in
    let order = ranks_by (lists_total values_are_ordered.0) (λ (cell : Cell). keys_of keys cell) in
    let sorted : List Cell = c.sort_by.new.self.items in
    let up : IsSortedBy (comes_first keys) sorted = c.in_ok-sort_by.ensures.sorted (comes_first keys) order (always_returns_same _ _ _ (λ a r f h. search rules)) in
    let stable = c.sort_by.ensures.stable (comes_first keys) order (always_returns_same _ _ _ (λ a r f h. search rules)) in
    let same : IsStableBy (comes_first keys) c.args.cells sorted = subst (λ (cells : List Cell). IsStableBy (comes_first keys) cells sorted) c.into_vec-cells.ensures stable in
    c.from_vec.ensures ∙ stable_sort (comes_first keys) order c.args.cells sorted up same
