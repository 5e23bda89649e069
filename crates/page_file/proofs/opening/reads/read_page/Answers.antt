use Rattle.std.proofs.Common.{arith}
use Rattle.page_chain.proofs.PutLemmas.{one_sync}
use Rattle.page_chain.proofs.RunLemmas.{rose_told}
use Rattle.page_file.proofs.PageReads.{page_told, want_left, nothing_told}
use Rattle.page_file.proofs.opening.reads.read_page.Goals as goal

pub returns-in-Ok : goal.returns-in-Ok
returns-in-Ok g c = record {
  size = omega arith;
  bytes = page_told c.args.number c.in-Ok.count c.read_at.new.into _ (omega arith) c.in-Ok.ensures.bytes;
  reads = one_sync _ _ _ _ _ _ (g.met.D.Disk.only_now c.args.disk.now) c.read_at.ensures.same c.read_at.ensures.seen c.read_at.ensures.crash c.read_at.ensures.time;
  cause = tt;
}

pub returns-in-Err : goal.returns-in-Err
returns-in-Err g c = record {
  size = omega arith;
  bytes = nothing_told (g.D.Disk.moment c.args.disk.now).state.seen;
  reads = one_sync _ _ _ _ _ _ (g.met.D.Disk.only_now c.args.disk.now) c.read_at.ensures.same c.read_at.ensures.seen c.read_at.ensures.crash c.read_at.ensures.time;
  cause = rose_told _ _ _ _ c.faults-before.ensures c.faults.ensures (c.has_risen.ensures.0 c.if-has_risen.true);
}

pub returns-in-Err-2 : goal.returns-in-Err-2
returns-in-Err-2 g c = record {
  size = omega arith;
  bytes = nothing_told (g.D.Disk.moment c.args.disk.now).state.seen;
  reads = one_sync _ _ _ _ _ _ (g.met.D.Disk.only_now c.args.disk.now) c.read_at.ensures.same c.read_at.ensures.seen c.read_at.ensures.crash c.read_at.ensures.time;
  cause = want_left _ _ _ _ _ _ _ c.faults-before.ensures c.faults.ensures c.has_risen.ensures.1 c.if-has_risen.false c.in-Err-2.ensures.cause;
}
