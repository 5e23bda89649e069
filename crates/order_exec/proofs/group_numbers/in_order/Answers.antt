use Rattle.std.proofs.Common.{ℤ, List, rules, subst, ◌∙◌}
use Rattle.std.proofs.lemmas.Cmp.{int_cmp_total}
use Rattle.std.proofs.lemmas.Fn.{always_returns_same}
use Rattle.std.proofs.lemmas.List.Sorted.{ranks_by}
use Rattle.std.specs.List.Sorted.{IsSortedBy, IsStableBy}
use Rattle.order_exec.specs.Inner.Counted.{number_before}
use Rattle.order_exec.proofs.SortLaws.{stable_sort}
use Rattle.order_exec.proofs.group_numbers.in_order.Goals as goal

pub returns : goal.returns
returns c =
    let order = ranks_by int_cmp_total (λ (n : ℤ). n) in
    let sorted : List ℤ = c.sort_by.new.self.items in
    let up : IsSortedBy number_before sorted = c.in_ok-sort_by.ensures.sorted number_before order (always_returns_same _ _ _ (λ a r f h. search rules)) in
    let stable = c.sort_by.ensures.stable number_before order (always_returns_same _ _ _ (λ a r f h. search rules)) in
    let same : IsStableBy number_before c.args.numbers sorted = subst (λ (ns : List ℤ). IsStableBy number_before ns sorted) c.into_vec-numbers.ensures stable in
    c.from_vec.ensures ∙ stable_sort number_before order c.args.numbers sorted up same
