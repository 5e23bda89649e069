use Rattle.std.proofs.Common.{◌∙◌}
use Rattle.std.proofs.lemmas.List.{take_all}
use Rattle.array_rows.proofs.Loops.{copied_on}
use Rattle.array_rows.proofs.columns.filling.copy_columns.Goals as goal

pub loop-column-preserved : goal.loop-column-preserved
loop-column-preserved c =
    copied_on c.args.columns.now c.loop-column.copy.items c.push.new.self.items c.loop-column.column-index c.column-item.result c.in_ok-copy-2.field-0
    c.loop-column-test.true c.column-item.is c.in_ok-copy-2.ensures c.loop-column.invariant c.in_ok-push.ensures.items

pub returns : goal.returns
returns c = c.loop-column.invariant ∙ take_all c.loop-column.column-index c.args.columns.now c.loop-column-test.false
