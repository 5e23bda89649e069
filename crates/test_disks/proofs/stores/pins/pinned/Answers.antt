use Rattle.std.proofs.Common.{not, ap, subst}
use Rattle.store_ledger.specs.Ledger.{is_tried}
use Rattle.store_state.specs.At.{standing}
use Rattle.test_disks.proofs.Holding.{begun_is_untried, pin_leaves, same_leaves_all}
use Rattle.test_disks.specs.Holds.{IsHold}
use Rattle.test_disks.proofs.stores.pins.pinned.Goals as goal

pub returns-in-Ok-clause-own : goal.returns-in-Ok-clause-own
returns-in-Ok-clause-own g c =
    begun_is_untried c.args.store.now.ledger c.pin.new.self.ledger c.args.session c.names.result.now c.in-Ok.pinned c.names.ensures.names c.names.ensures.stored c.in-Ok.ensures.pinned
    c.in-Ok.ensures.open (c.in-Ok.ensures.untried is_tried)

pub returns-in-Ok-clause-others : goal.returns-in-Ok-clause-others
returns-in-Ok-clause-others g c = pin_leaves (standing g.D.Disk.moment c.args.store.now) (standing g.D.Disk.moment c.pin.new.self) c.args.session c.in-Ok.ensures.ok

pub returns-in-Err-HistoryFull-clause-own : goal.returns-in-Err-HistoryFull-clause-own
returns-in-Err-HistoryFull-clause-own g c = same_leaves_all (standing g.D.Disk.moment c.args.store.now) (standing g.D.Disk.moment c.pin.new.self) c.in-Err-HistoryFull.ensures.err c.args.session c.args.held.now c.requires

pub returns-in-Err-HistoryFull-clause-others : goal.returns-in-Err-HistoryFull-clause-others
returns-in-Err-HistoryFull-clause-others g c = λ session held e h. same_leaves_all (standing g.D.Disk.moment c.args.store.now) (standing g.D.Disk.moment c.pin.new.self) c.in-Err-HistoryFull.ensures.err session held h

pub returns-in-Err-Memory-clause-own : goal.returns-in-Err-Memory-clause-own
returns-in-Err-Memory-clause-own g c = same_leaves_all (standing g.D.Disk.moment c.args.store.now) (standing g.D.Disk.moment c.pin.new.self) c.in-Err-Memory.ensures.err c.args.session c.args.held.now c.requires

pub returns-in-Err-Memory-clause-others : goal.returns-in-Err-Memory-clause-others
returns-in-Err-Memory-clause-others g c = λ session held e h. same_leaves_all (standing g.D.Disk.moment c.args.store.now) (standing g.D.Disk.moment c.pin.new.self) c.in-Err-Memory.ensures.err session held h

pub pin-requires : goal.pin-requires
pin-requires g c = record { unpinned = ap not (subst (IsHold c.args.store.now.ledger c.args.session) c.in-Free.is c.requires) }
