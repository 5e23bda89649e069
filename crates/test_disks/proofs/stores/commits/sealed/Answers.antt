use Rattle.store_state.specs.At.{standing}
use Rattle.test_quiet.specs.Quiet.{quiet_moment}
use Rattle.test_disks.proofs.Committing.{all_leaves_tried, sealed_leaves_all}
use Rattle.test_disks.proofs.Holding.{all_but_one, notes_leave_all}
use Rattle.test_disks.proofs.stores.commits.sealed.Goals as goal

pub returns-in-Ok-clause-tried : goal.returns-in-Ok-clause-tried
returns-in-Ok-clause-tried c =
    all_leaves_tried c.args.prepared.session c.args.store.now.ledger c.seal.new.self.ledger (sealed_leaves_all (standing quiet_moment c.args.store.now) c.args.prepared _ _ _ c.in-Ok.ensures.noted)

pub returns-in-Ok-clause-others : goal.returns-in-Ok-clause-others
returns-in-Ok-clause-others c =
    all_but_one c.args.prepared.session c.args.store.now.ledger c.seal.new.self.ledger (sealed_leaves_all (standing quiet_moment c.args.store.now) c.args.prepared _ _ _ c.in-Ok.ensures.noted)

pub returns-in-Err-clause-tried : goal.returns-in-Err-clause-tried
returns-in-Err-clause-tried c = all_leaves_tried c.args.prepared.session c.args.store.now.ledger c.seal.new.self.ledger (notes_leave_all _ _ c.args.prepared.session _ _ c.in-Err.ensures.noted)

pub returns-in-Err-clause-others : goal.returns-in-Err-clause-others
returns-in-Err-clause-others c = all_but_one c.args.prepared.session c.args.store.now.ledger c.seal.new.self.ledger (notes_leave_all _ _ c.args.prepared.session _ _ c.in-Err.ensures.noted)
