use Rattle.prepared_commits.specs.Needs.{needs}
use Rattle.store_state.specs.At.{keeping, standing}
use Rattle.test_quiet.specs.Quiet.{quiet_moment}
use Rattle.test_disks.proofs.Committing.{asked_quietly, left_leaves, others_then, tried_then}
use Rattle.test_disks.proofs.stores.commits.committed.Goals as goal

pub returns-in-Ok-clause-tried : goal.returns-in-Ok-clause-tried
returns-in-Ok-clause-tried c =
    let old = standing quiet_moment c.args.store.now in
    let new = standing quiet_moment c.prepare.new.self in
    let needed = needs old (keeping c.args.store.now) c.args.offer.change c.args.offer.changed in
    tried_then c.args.session c.in-Ok.prepared.session old.ledger new.ledger c.sealed.new.store.ledger c.in-Ok.ensures.of.0
    (left_leaves c.args.offer.change c.args.session needed old new c.prepare.result c.prepare.ensures.left) c.sealed.ensures.tried

pub returns-in-Ok-clause-others : goal.returns-in-Ok-clause-others
returns-in-Ok-clause-others c =
    let old = standing quiet_moment c.args.store.now in
    let new = standing quiet_moment c.prepare.new.self in
    let needed = needs old (keeping c.args.store.now) c.args.offer.change c.args.offer.changed in
    others_then c.args.session c.in-Ok.prepared.session old.ledger new.ledger c.sealed.new.store.ledger c.in-Ok.ensures.of.0
    (left_leaves c.args.offer.change c.args.session needed old new c.prepare.result c.prepare.ensures.left) c.sealed.ensures.others

pub returns-in-Err-clause-tried : goal.returns-in-Err-clause-tried
returns-in-Err-clause-tried c =
    let old = standing quiet_moment c.args.store.now in
    let needed = needs old (keeping c.args.store.now) c.args.offer.change c.args.offer.changed in
    (left_leaves c.args.offer.change c.args.session needed old (standing quiet_moment c.prepare.new.self) c.prepare.result c.prepare.ensures.left).tried

pub returns-in-Err-clause-others : goal.returns-in-Err-clause-others
returns-in-Err-clause-others c =
    let old = standing quiet_moment c.args.store.now in
    let needed = needs old (keeping c.args.store.now) c.args.offer.change c.args.offer.changed in
    (left_leaves c.args.offer.change c.args.session needed old (standing quiet_moment c.prepare.new.self) c.prepare.result c.prepare.ensures.left).others

pub prepare-requires-clause-asked : goal.prepare-requires-clause-asked
prepare-requires-clause-asked c =
    asked_quietly (standing quiet_moment c.args.store.now) c.args.offer.change c.args.offer.changed c.has_its_names.ensures c.requires.offer.typed c.requires.offer.comes c.requires.offer.valid
