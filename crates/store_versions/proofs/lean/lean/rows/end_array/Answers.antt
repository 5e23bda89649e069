use Rattle.event_core.specs.History.{is_pages_of}
use Rattle.store_versions.specs.LeanRows.{ended}
use Rattle.plan_changes.proofs.Maps.{map_step}
use Rattle.store_versions.proofs.lean.lean.rows.end_array.Goals as goal

pub loop-row-preserved : goal.loop-row-preserved
loop-row-preserved c = map_step (ended (is_pages_of c.args.name.now) c.args.place) _ c.args.rows.now _ c.row-item.result _ c.loop-row-test.true c.loop-row.invariant c.end_of.ensures
