use Rattle.page_chain.proofs.PutLemmas.{one_sync}
use Rattle.page_chain.proofs.RunLemmas.{rose_told}
use Rattle.page_file.proofs.PageReads.{want_left}
use Rattle.page_file.proofs.opening.reads.settle.Goals as goal

pub returns-in-Ok : goal.returns-in-Ok
returns-in-Ok g c = record {
  durable = c.in-Ok.ensures.durable;
  reads = one_sync _ _ _ _ _ _ (g.met.D.Disk.only_now c.args.disk.now) c.sync.ensures.same c.sync.ensures.seen c.sync.ensures.crash c.sync.ensures.time;
  cause = tt;
}

pub returns-in-Err : goal.returns-in-Err
returns-in-Err g c = record {
  durable = tt;
  reads = one_sync _ _ _ _ _ _ (g.met.D.Disk.only_now c.args.disk.now) c.sync.ensures.same c.sync.ensures.seen c.sync.ensures.crash c.sync.ensures.time;
  cause = rose_told _ _ _ _ c.faults-before.ensures c.faults.ensures (c.has_risen.ensures.0 c.if-has_risen.true);
}

pub returns-in-Err-2 : goal.returns-in-Err-2
returns-in-Err-2 g c = record {
  durable = tt;
  reads = one_sync _ _ _ _ _ _ (g.met.D.Disk.only_now c.args.disk.now) c.sync.ensures.same c.sync.ensures.seen c.sync.ensures.crash c.sync.ensures.time;
  cause = want_left _ _ _ _ _ _ _ c.faults-before.ensures c.faults.ensures c.has_risen.ensures.1 c.if-has_risen.false c.in-Err-2.ensures.cause;
}
