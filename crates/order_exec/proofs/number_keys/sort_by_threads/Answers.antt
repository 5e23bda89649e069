use Rattle.std.proofs.Common.{List, rules}
use Rattle.std.proofs.lemmas.Cmp.{int_cmp_total}
use Rattle.std.proofs.lemmas.Fn.{always_returns_same}
use Rattle.std.proofs.lemmas.List.Sorted.{ranks_by}
use Rattle.std.specs.List.Sorted.{IsSortedBy}
use Rattle.order_exec.specs.Inner.Keyed.{key_first}
use Rattle.order_exec.specs.declared.number_keys.Keyed.{Keyed}
use Rattle.order_exec.proofs.SortLaws.{stable_sort}
use Rattle.order_exec.proofs.number_keys.sort_by_threads.Goals as goal

pub returns : goal.returns
returns g c =
    let order = ranks_by int_cmp_total (λ (one : Keyed). one.key) in
    let sorted : List Keyed = c.par_sort_by.new.s in
    let up : IsSortedBy key_first sorted = c.in_ok-par_sort_by.ensures.sorted key_first order (always_returns_same _ _ _ (λ a r f h. search rules)) in
    let stable = c.par_sort_by.ensures.stable key_first order (always_returns_same _ _ _ (λ a r f h. search rules)) in
    stable_sort key_first order c.args.keyed.now sorted up stable
