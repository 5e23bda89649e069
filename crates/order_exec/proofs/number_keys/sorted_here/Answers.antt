use Rattle.std.proofs.Common.{List, rules, subst, ◌∙◌}
use Rattle.std.proofs.lemmas.Cmp.{int_cmp_total}
use Rattle.std.proofs.lemmas.Fn.{always_returns_same}
use Rattle.std.proofs.lemmas.List.Sorted.{ranks_by}
use Rattle.std.specs.List.Sorted.{IsSortedBy, IsStableBy}
use Rattle.order_exec.specs.Inner.Keyed.{key_first}
use Rattle.order_exec.specs.declared.number_keys.Keyed.{Keyed}
use Rattle.order_exec.proofs.SortLaws.{stable_sort}
use Rattle.order_exec.proofs.number_keys.sorted_here.Goals as goal

pub returns : goal.returns
returns c =
    let order = ranks_by int_cmp_total (λ (one : Keyed). one.key) in
    let sorted : List Keyed = c.sort_by.new.self.items in
    let up : IsSortedBy key_first sorted = c.in_ok-sort_by.ensures.sorted key_first order (always_returns_same _ _ _ (λ a r f h. search rules)) in
    let stable = c.sort_by.ensures.stable key_first order (always_returns_same _ _ _ (λ a r f h. search rules)) in
    let same : IsStableBy key_first c.args.keyed sorted = subst (λ (keyed : List Keyed). IsStableBy key_first keyed sorted) c.into_vec-keyed.ensures stable in
    c.from_vec.ensures ∙ stable_sort key_first order c.args.keyed sorted up same
