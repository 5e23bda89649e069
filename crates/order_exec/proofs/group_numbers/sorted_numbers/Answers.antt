use Rattle.std.proofs.Common.{◌≡◌, ◌∷◌, rules, arith}
use Rattle.std.proofs.lemmas.Grind.{common_steps}
use Rattle.std.specs.Vec.Iter.{into_iter_items}
use Rattle.order_exec.proofs.GroupNumberLaws.{next_sorted}
use Rattle.order_exec.proofs.group_numbers.sorted_numbers.Goals as goal

pub loop-numbers-preserved : goal.loop-numbers-preserved
loop-numbers-preserved c =
    let next : into_iter_items c.loop-numbers.numbers-iterator ≡ c.in-Some.numbers ∷ into_iter_items c.next.new.self = first_of (search rules, grind (arith, common_steps)) in
    next_sorted c.args.groups (into_iter_items c.loop-numbers.numbers-iterator) (into_iter_items c.next.new.self) c.loop-numbers.sorted c.push.new.self c.in-Some.numbers c.in_ok-in_order.field-0
    next c.in_ok-in_order.ensures c.in_ok-push.ensures.ok c.loop-numbers.invariant
