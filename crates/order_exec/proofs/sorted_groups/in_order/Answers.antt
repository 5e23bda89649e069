use Rattle.std.proofs.Common.{List, rules, subst, ◌∙◌}
use Rattle.std.proofs.lemmas.Fn.{always_returns_same}
use Rattle.std.specs.List.Sorted.{IsSortedBy, IsStableBy}
use Rattle.cell_values.specs.declared.datum.Datum.{Datum}
use Rattle.order_exec.specs.Inner.Ranked.{value_before}
use Rattle.order_exec.proofs.GroupOrderLaws.{value_order}
use Rattle.order_exec.proofs.SortLaws.{stable_sort}
use Rattle.order_exec.proofs.sorted_groups.in_order.Goals as goal

pub returns : goal.returns
returns c =
    let sorted : List Datum = c.sort_by.new.self.items in
    let up : IsSortedBy value_before sorted = c.in_ok-sort_by.ensures.sorted value_before value_order (always_returns_same _ _ _ (λ a r f h. search rules)) in
    let stable = c.sort_by.ensures.stable value_before value_order (always_returns_same _ _ _ (λ a r f h. search rules)) in
    let same : IsStableBy value_before c.args.values sorted = subst (λ (values : List Datum). IsStableBy value_before values sorted) c.into_vec-values.ensures stable in
    c.from_vec.ensures ∙ stable_sort value_before value_order c.args.values sorted up same
