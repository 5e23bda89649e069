use Rattle.store_state.specs.At.{standing}
use Rattle.test_disks.proofs.Holding.{held_none, held_pin, unpin_leaves, unpin_leaves_none}
use Rattle.test_disks.proofs.stores.pins.unpinned.Goals as goal

pub unpin-requires : goal.unpin-requires
unpin-requires g c = record { «open» = (held_pin c.args.store.now.ledger c.args.session c.args.held c.in-Some.pinned c.in-Some.ensures c.requires).begun }

pub returns-in-Some-clause-own : goal.returns-in-Some-clause-own
returns-in-Some-clause-own g c =
    let moment = g.D.Disk.moment in
    unpin_leaves_none (standing moment c.args.store.now) (standing moment c.unpin.new.self) c.args.session c.in-Some.pinned
    (held_pin c.args.store.now.ledger c.args.session c.args.held c.in-Some.pinned c.in-Some.ensures c.requires) c.unpin.ensures.unpinned

pub returns-in-Some-clause-others : goal.returns-in-Some-clause-others
returns-in-Some-clause-others g c =
    let moment = g.D.Disk.moment in
    unpin_leaves (standing moment c.args.store.now) (standing moment c.unpin.new.self) c.args.session c.in-Some.pinned
    (held_pin c.args.store.now.ledger c.args.session c.args.held c.in-Some.pinned c.in-Some.ensures c.requires) c.unpin.ensures.unpinned

pub returns-in-None-clause-own : goal.returns-in-None-clause-own
returns-in-None-clause-own g c = held_none c.args.store.now.ledger c.args.session c.args.held c.in-None.ensures c.requires
