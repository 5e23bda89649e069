use Rattle.std.proofs.Common.{refl, subst, sym}
use Rattle.test_disks.specs.Holds.{IsHold}
use Rattle.test_disks.proofs.stores.pairs.create_one.Goals as goal

pub once-requires-after_bounds : goal.once-requires-after_bounds
once-requires-after_bounds g c κs within = subst (IsHold c.args.pair.now.store.ledger 0) c.in-Free.is c.requires.first

pub returns-in-Free : goal.returns-in-Free
returns-in-Free g c = record {
  first = subst (IsHold c.once.new.store.ledger 0) (sym c.in-Free.is) c.once.ensures.own;
  second = c.once.ensures.others 1 c.args.pair.now.second refl c.requires.second;
}
