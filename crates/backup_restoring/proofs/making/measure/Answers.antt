use Rattle.page_chain.proofs.PutLemmas.{one_sync}
use Rattle.page_chain.proofs.RunLemmas.{rose_told}
use Rattle.page_file.proofs.PageReads.{nothing_told}
use Rattle.backup_restoring.proofs.making.measure.Goals as goal

pub returns-then-length-eq0-clause-reads : goal.returns-then-length-eq0-clause-reads
returns-then-length-eq0-clause-reads g c = one_sync _ _ _ _ _ _ (g.met.D.Disk.only_now c.args.disk.now) c.len.ensures.same c.len.ensures.seen c.len.ensures.crash c.len.ensures.time

pub returns-else-length-eq0-clause-reads : goal.returns-else-length-eq0-clause-reads
returns-else-length-eq0-clause-reads g c = one_sync _ _ _ _ _ _ (g.met.D.Disk.only_now c.args.disk.now) c.len.ensures.same c.len.ensures.seen c.len.ensures.crash c.len.ensures.time

pub returns-in-Err-2 : goal.returns-in-Err-2
returns-in-Err-2 g c = record {
  measured = nothing_told (g.D.Disk.moment c.args.disk.now).state.seen;
  reads = one_sync _ _ _ _ _ _ (g.met.D.Disk.only_now c.args.disk.now) c.len.ensures.same c.len.ensures.seen c.len.ensures.crash c.len.ensures.time;
  fault = tt;
}

pub returns-in-Err : goal.returns-in-Err
returns-in-Err g c = record {
  measured = nothing_told (g.D.Disk.moment c.args.disk.now).state.seen;
  reads = one_sync _ _ _ _ _ _ (g.met.D.Disk.only_now c.args.disk.now) c.len.ensures.same c.len.ensures.seen c.len.ensures.crash c.len.ensures.time;
  fault = rose_told _ _ _ _ c.faults-before.ensures c.faults.ensures (c.has_risen.ensures.0 c.if-has_risen.true);
}
