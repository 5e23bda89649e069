use Rattle.std.proofs.Common.{refl, codes, false}
use Rattle.test_changes.specs.Worked.{worked_create, written}
use Rattle.test_changes.proofs.Known.{allows_made}
use Rattle.test_changes.proofs.changes.push_first_three.Goals as goal

pub push_change-requires : goal.push_change-requires
push_change-requires c = allows_made c.args.catalog.now c.create-change.result worked_create c.requires refl c.create-change.ensures

pub push_change-requires-2 : goal.push_change-requires-2
push_change-requires-2 c = allows_made c.args.catalog.now c.write_none-change.result (written (codes "B") false) c.requires refl c.write_none-change.ensures

pub push_change-requires-3 : goal.push_change-requires-3
push_change-requires-3 c = allows_made c.args.catalog.now c.write_none-change-2.result (written (codes "A") false) c.requires refl c.write_none-change-2.ensures
