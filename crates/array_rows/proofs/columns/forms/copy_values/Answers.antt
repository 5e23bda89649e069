use Rattle.std.proofs.Common.{◌∙◌}
use Rattle.std.proofs.lemmas.List.{take_all}
use Rattle.array_rows.proofs.Loops.{copied_on}
use Rattle.array_rows.proofs.columns.forms.copy_values.Goals as goal

pub loop-value-preserved : goal.loop-value-preserved
loop-value-preserved c =
    copied_on c.args.values.now c.loop-value.copy c.push.new.self c.loop-value.value-index c.value-item.result c.in_ok-copy-2.field-0
    c.loop-value-test.true c.value-item.is c.in_ok-copy-2.ensures c.loop-value.invariant c.in_ok-push.ensures.ok

pub returns : goal.returns
returns c = c.loop-value.invariant ∙ take_all c.loop-value.value-index c.args.values.now c.loop-value-test.false
