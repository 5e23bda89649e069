use Rattle.plan_changes.proofs.Maps.{map_step}
use Rattle.version_catalog.specs.Records.{from_version}
use Rattle.version_catalog.proofs.changing.arrays.cut_all.Goals as goal

pub loop-array-preserved : goal.loop-array-preserved
loop-array-preserved c = map_step (from_version c.args.name.now c.args.below) _ c.args.arrays.now _ c.array-item.result _ c.loop-array-test.true c.loop-array.invariant c.cut.ensures
