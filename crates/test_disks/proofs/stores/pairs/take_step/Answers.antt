use Rattle.std.proofs.Common.{subst, sym}
use Rattle.test_disks.specs.Holds.{IsHold}
use Rattle.test_disks.proofs.stores.pairs.take_step.Goals as goal

pub returns-in-Cells-clause-own : goal.returns-in-Cells-clause-own
returns-in-Cells-clause-own g c = c.told_cells.ensures c.args.session c.args.held.now c.requires

pub returns-in-Cells-clause-others : goal.returns-in-Cells-clause-others
returns-in-Cells-clause-others g c = λ session held e h. c.told_cells.ensures session held h

pub unpinned-requires : goal.unpinned-requires
unpinned-requires g c = subst (IsHold c.args.store.now.ledger c.args.session) (sym c.replace.ensures.value) c.requires

pub changed-has-requires-after_bounds : goal.changed-has-requires-after_bounds
changed-has-requires-after_bounds g c κs within = subst (IsHold c.args.store.now.ledger c.args.session) (sym c.replace-had.ensures.value) c.requires

pub pinned-requires : goal.pinned-requires
pinned-requires g c = c.requires

pub told_cells-requires : goal.told_cells-requires
told_cells-requires g c = c.requires

pub returns-in-Pin-clause-own : goal.returns-in-Pin-clause-own
returns-in-Pin-clause-own g c = c.pinned.ensures.own

pub returns-in-Pin-clause-others : goal.returns-in-Pin-clause-others
returns-in-Pin-clause-others g c = c.pinned.ensures.others

pub returns-in-Unpin-clause-own : goal.returns-in-Unpin-clause-own
returns-in-Unpin-clause-own g c = subst (IsHold c.unpinned.new.store.ledger c.args.session) (sym c.replace.ensures.after) c.unpinned.ensures.own

pub returns-in-Unpin-clause-others : goal.returns-in-Unpin-clause-others
returns-in-Unpin-clause-others g c = c.unpinned.ensures.others

pub returns-in-Change-clause-own : goal.returns-in-Change-clause-own
returns-in-Change-clause-own g c = c.changed-has.ensures.own

pub returns-in-Change-clause-others : goal.returns-in-Change-clause-others
returns-in-Change-clause-others g c = c.changed-has.ensures.others

pub returns-in-Versions-clause-own : goal.returns-in-Versions-clause-own
returns-in-Versions-clause-own g c = c.requires

pub returns-in-Renew-clause-own : goal.returns-in-Renew-clause-own
returns-in-Renew-clause-own g c = c.requires
