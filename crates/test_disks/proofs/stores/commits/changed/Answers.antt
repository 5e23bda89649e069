use Rattle.test_disks.proofs.Committing.{untried_is_pinned}
use Rattle.test_disks.proofs.Holding.{tried_of, untried_of}
use Rattle.test_disks.proofs.stores.commits.changed.Goals as goal

pub committed-answer-requires-clause-pinned : goal.committed-answer-requires-clause-pinned
committed-answer-requires-clause-pinned g c = untried_is_pinned c.args.store.now.ledger c.args.session c.args.held c.in-Pinned.pinned c.in-Pinned.is c.requires

pub committed-answer-requires-clause-tried : goal.committed-answer-requires-clause-tried
committed-answer-requires-clause-tried g c = (untried_of c.args.store.now.ledger c.args.session c.args.held c.in-Pinned.pinned c.in-Pinned.is c.requires).first

pub offer_under-requires-clause-open : goal.offer_under-requires-clause-open
offer_under-requires-clause-open g c κs within = (untried_of c.args.store.now.ledger c.args.session c.args.held c.in-Pinned.pinned c.in-Pinned.is c.requires).pin.begun

pub offer_under-requires-clause-stored : goal.offer_under-requires-clause-stored
offer_under-requires-clause-stored g c κs within = (untried_of c.args.store.now.ledger c.args.session c.args.held c.in-Pinned.pinned c.in-Pinned.is c.requires).pin.stored

pub returns-in-Ok-clause-own : goal.returns-in-Ok-clause-own
returns-in-Ok-clause-own g c = c.committed-answer.ensures.tried c.in-Pinned.pinned (untried_of c.args.store.now.ledger c.args.session c.args.held c.in-Pinned.pinned c.in-Pinned.is c.requires).pin

pub returns-in-Err-clause-own : goal.returns-in-Err-clause-own
returns-in-Err-clause-own g c = untried_of c.args.store.now.ledger c.args.session c.args.held c.in-Pinned.pinned c.in-Pinned.is c.requires

pub returns-in-Tried-clause-own : goal.returns-in-Tried-clause-own
returns-in-Tried-clause-own g c = tried_of c.args.store.now.ledger c.args.session c.args.held c.in-Tried.pinned c.in-Tried.is c.requires
