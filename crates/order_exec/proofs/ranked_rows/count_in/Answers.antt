use Rattle.std.proofs.Common.{ap, ◌∙◌, subst, sym}
use Rattle.order_exec.specs.Inner.Ranked.{AreInOrder, values_or_none}
use Rattle.order_exec.proofs.ranked_rows.count_in.Goals as goal

pub count_below-requires : goal.count_below-requires
count_below-requires c = subst AreInOrder (sym (c.as_slice.ensures ∙ ap values_or_none c.in-Some.ensures.value)) (c.requires c.args.group.now)
