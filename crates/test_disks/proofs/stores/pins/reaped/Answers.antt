use Rattle.store_state.specs.At.{standing}
use Rattle.test_disks.proofs.Holding.{reap_leaves, same_leaves_all}
use Rattle.test_disks.proofs.stores.pins.reaped.Goals as goal

pub returns-in-Ok : goal.returns-in-Ok
returns-in-Ok g c = reap_leaves c.in-Ok.comes (standing g.D.Disk.moment c.args.store.now) (standing g.D.Disk.moment c.reap.new.self) c.in-Ok.ensures.ok

pub returns-in-Err : goal.returns-in-Err
returns-in-Err g c = same_leaves_all (standing g.D.Disk.moment c.args.store.now) (standing g.D.Disk.moment c.reap.new.self) c.in-Err.ensures.err
