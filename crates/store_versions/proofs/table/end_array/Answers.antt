use Rattle.store_versions.specs.Rows.{ended, is_row_of}
use Rattle.plan_changes.proofs.Maps.{map_step}
use Rattle.store_versions.proofs.table.end_array.Goals as goal

pub loop-row-preserved : goal.loop-row-preserved
loop-row-preserved c = map_step (ended (is_row_of c.args.name.now) c.args.place) _ c.args.rows.now _ c.row-item.result _ c.loop-row-test.true c.loop-row.invariant c.end_of.ensures
