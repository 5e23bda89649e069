use Rattle.plan_changes.specs.Changes.{without_below}
use Rattle.plan_changes.proofs.Maps.{map_step}
use Rattle.plan_changes.proofs.names.cut_all.Goals as goal

pub loop-entry-preserved : goal.loop-entry-preserved
loop-entry-preserved c = map_step (without_below c.args.name.now c.args.below) _ c.args.arrays.now _ c.entry-item.result _ c.loop-entry-test.true c.loop-entry.invariant c.cut.ensures
