use Rattle.std.proofs.Common.{sym, ◌∙◌}
use Rattle.check_rules.specs.Sorts.{is_name, is_number}
use Rattle.check_rules.proofs.SortLemmas.{pair_before}
use Rattle.check_rules.proofs.operators.sort.first_but_places.Goals as goal

pub loop-left-preserved : goal.loop-left-preserved
loop-left-preserved c =
    pair_before is_name is_number c.loop-left.left.now c.name-item.result c.number-item.result c.in-len2-up.len_at_least c.name-item.is c.number-item.is
    (sym c.is_name.ensures ∙ c.if-not-is_name.false) (sym c.is_number.ensures ∙ c.if-not-is_number.false)
    ∙ c.loop-left.invariant
