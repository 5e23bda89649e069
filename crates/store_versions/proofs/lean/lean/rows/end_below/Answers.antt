use Rattle.store_versions.specs.LeanRows.{ended, is_below}
use Rattle.plan_changes.proofs.Maps.{map_step}
use Rattle.store_versions.proofs.lean.lean.rows.end_below.Goals as goal

pub loop-row-preserved : goal.loop-row-preserved
loop-row-preserved c = map_step (ended (is_below c.args.name.now c.args.below) c.args.place) _ c.args.rows.now _ c.row-item.result _ c.loop-row-test.true c.loop-row.invariant c.end_below.ensures
