use Rattle.std.proofs.Common.{refl}
use Rattle.page_chain.proofs.PutLemmas.{one_put, then_sync, put_torn}
use Rattle.page_chain.proofs.slots.slots.puts.put.Goals as goal

pub returns-in_err-write_at-clause-writes : goal.returns-in_err-write_at-clause-writes
returns-in_err-write_at-clause-writes g c =
    one_put _ _ _ _ _ _ _ _ (g.met.D.Disk.only_now c.args.disk.now) c.write_at.ensures.same c.in_err-write_at.ensures.written c.write_at.ensures.crash c.write_at.ensures.time

pub returns-in-Err-clause-put : goal.returns-in-Err-clause-put
returns-in-Err-clause-put g c = put_torn _ _ (g.D.Disk.moment c.args.disk.now).state (g.D.Disk.moment c.write_at.new.self).state (g.D.Disk.moment c.sync.new.self).state c.sync.ensures.seen c.in_ok-write_at.ensures.written

pub returns-in-Err-clause-writes : goal.returns-in-Err-clause-writes
returns-in-Err-clause-writes g c =
    let put = one_put _ _ _ _ _ _ _ _ (g.met.D.Disk.only_now c.args.disk.now) c.write_at.ensures.same (put_torn _ _ (g.D.Disk.moment c.args.disk.now).state (g.D.Disk.moment c.write_at.new.self).state (g.D.Disk.moment c.write_at.new.self).state refl c.in_ok-write_at.ensures.written) c.write_at.ensures.crash c.write_at.ensures.time in
    then_sync _ _ _ _ _ _ _ _ _ _ _ put c.sync.ensures.same c.sync.ensures.seen c.sync.ensures.crash c.sync.ensures.time

pub returns-in-Ok-clause-writes : goal.returns-in-Ok-clause-writes
returns-in-Ok-clause-writes g c =
    let put = one_put _ _ _ _ _ _ _ _ (g.met.D.Disk.only_now c.args.disk.now) c.write_at.ensures.same (put_torn _ _ (g.D.Disk.moment c.args.disk.now).state (g.D.Disk.moment c.write_at.new.self).state (g.D.Disk.moment c.write_at.new.self).state refl c.in_ok-write_at.ensures.written) c.write_at.ensures.crash c.write_at.ensures.time in
    then_sync _ _ _ _ _ _ _ _ _ _ _ put c.sync.ensures.same c.sync.ensures.seen c.sync.ensures.crash c.sync.ensures.time
