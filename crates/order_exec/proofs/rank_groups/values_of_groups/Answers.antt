use Rattle.std.proofs.Common.{List, subst}
use Rattle.std.proofs.lemmas.List.{take_all}
use Rattle.cell_values.specs.declared.datum.Row.{Row}
use Rattle.order_exec.specs.Inner.Ranked.{HoldsValues}
use Rattle.order_exec.proofs.RankLaws.{no_values, one_value}
use Rattle.order_exec.proofs.rank_groups.values_of_groups.Goals as goal

pub loop-row-init : goal.loop-row-init
loop-row-init c = no_values c.args.attribute c.args.dims.now c.new-groups.result c.new-groups.ensures.empty

pub loop-row-preserved : goal.loop-row-preserved
loop-row-preserved c =
    one_value c.args.attribute c.args.dims.now c.args.rows.now c.loop-row.row-index c.row-item.result c.loop-row-test.true c.row-item.is c.loop-row.groups c.take_value.new.groups c.loop-row.invariant c.in_ok-take_value.ensures

pub returns : goal.returns
returns c = subst (λ (rows : List Row). HoldsValues c.args.attribute c.args.dims.now rows c.loop-row.groups) (take_all c.loop-row.row-index c.args.rows.now c.loop-row-test.false) c.loop-row.invariant
