use Rattle.group_rows.proofs.MergeLaws.{groups_both}
use Rattle.group_rows.proofs.rows.merging.merge_two.Goals as goal

pub returns-clause-groups : goal.returns-clause-groups
returns-clause-groups c = λ gs own other h k p.
    groups_both gs own other c.args.left.groups c.args.right.groups c.in_ok-merge_lists.field-0 h k p (c.in_ok-merge_lists.ensures.merged h.in_order k.in_order)
