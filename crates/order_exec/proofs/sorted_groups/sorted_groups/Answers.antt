use Rattle.std.proofs.Common.{length}
use Rattle.std.proofs.lemmas.List.{nil_from_length}
use Rattle.group_rows.proofs.TakenLaws.{none_left}
use Rattle.order_exec.proofs.GroupOrderLaws.{all_sorted_groups, none_sorted, one_sorted}
use Rattle.order_exec.proofs.sorted_groups.sorted_groups.Goals as goal

pub sorting-init : goal.sorting-init
sorting-init c = none_sorted c.args.groups c.new-sorted.result c.new-sorted.ensures.empty

pub sorting-preserved : goal.sorting-preserved
sorting-preserved c =
    one_sorted c.args.groups c.sorting.left c.pop_first.new.self c.sorting.sorted c.insert.new.self c.in-Some.key c.in-Some.values c.in_ok-in_order.field-0 c.in-Some.ensures.value c.in-Some.ensures.updates c.in_ok-insert.ensures.updates
    c.in_ok-in_order.ensures c.sorting.invariant

pub sorting-preserved-in_ok-insert : goal.sorting-preserved-in_ok-insert
sorting-preserved-in_ok-insert c =
    one_sorted c.args.groups c.sorting.left c.pop_first.new.self c.sorting.sorted c.insert.new.self c.in-Some.key c.in-Some.values c.in_ok-in_order.field-0 c.in-Some.ensures.value c.in-Some.ensures.updates c.in_ok-insert.ensures.updates
    c.in_ok-in_order.ensures c.sorting.invariant

pub returns : goal.returns
returns c =
    let none = none_left c.pop_first.result (length c.sorting.left.entries) c.in_default.not-Some c.pop_first.ensures.variant.1 in
    all_sorted_groups c.args.groups c.sorting.left c.sorting.sorted (nil_from_length c.sorting.left.entries none) c.sorting.invariant
