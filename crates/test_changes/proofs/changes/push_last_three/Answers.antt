use Rattle.std.proofs.Common.{refl, codes, true}
use Rattle.plan_changes.specs.declared.change.Change.TheVariants.{Remove, RemoveVersions}
use Rattle.test_changes.specs.Worked.{written}
use Rattle.test_changes.proofs.Known.{allows_made}
use Rattle.test_changes.proofs.changes.push_last_three.Goals as goal

pub push_change-requires : goal.push_change-requires
push_change-requires c = allows_made c.args.catalog.now c.write_none-change.result (written (codes "A") true) c.requires refl c.write_none-change.ensures

pub push_change-requires-2 : goal.push_change-requires-2
push_change-requires-2 c = allows_made c.args.catalog.now c.remove.result (Remove (codes "A")) c.requires refl c.remove.ensures

pub push_change-requires-3 : goal.push_change-requires-3
push_change-requires-3 c = allows_made c.args.catalog.now c.cut.result (RemoveVersions (codes "A") 2) c.requires refl c.cut.ensures
