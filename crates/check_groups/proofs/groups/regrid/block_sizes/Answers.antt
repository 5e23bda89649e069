use Rattle.std.proofs.Common.{◌∙◌}
use Rattle.check_groups.specs.Blocks.{block_one}
use Rattle.check_rules.proofs.Turns.{turn_on}
use Rattle.check_groups.proofs.groups.regrid.block_sizes.Goals as goal

pub loop-number-preserved : goal.loop-number-preserved
loop-number-preserved c =
    rw c.in_ok-push.ensures.ok (turn_on block_one c.loop-number.sizes c.args.numbers.now c.loop-number.number-index c.number-item.result c.in_ok-size.size
    c.loop-number-test.true c.number-item.is c.in_ok-size.ensures ∙ c.loop-number.invariant)
