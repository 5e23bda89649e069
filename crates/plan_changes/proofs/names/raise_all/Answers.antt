use Rattle.plan_changes.specs.Changes.{with_version}
use Rattle.plan_changes.proofs.Maps.{map_step}
use Rattle.plan_changes.proofs.names.raise_all.Goals as goal

pub loop-entry-preserved : goal.loop-entry-preserved
loop-entry-preserved c = map_step (with_version c.args.name.now) _ c.args.arrays.now _ c.entry-item.result _ c.loop-entry-test.true c.loop-entry.invariant c.in_ok-raise.ensures
