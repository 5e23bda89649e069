use Rattle.std.proofs.Common.{arith, ◌*◌}
use Rattle.page_chain.proofs.ReadLemmas.{whole_read, page_read}
use Rattle.page_chain.proofs.RunLemmas.{reads_once, rose_told, want_no_fault}
use Rattle.page_chain.proofs.page.read_page.Goals as goal

pub returns-in-Ok-clause-whole : goal.returns-in-Ok-clause-whole
returns-in-Ok-clause-whole g c = whole_read c.args.page (c.args.page * 4096) c.in-Ok.count _ c.read_at.new.into (omega arith) (omega arith) c.in-Ok.ensures.bytes

pub returns-in-Ok-clause-bytes : goal.returns-in-Ok-clause-bytes
returns-in-Ok-clause-bytes g c = page_read c.args.page (c.args.page * 4096) c.in-Ok.count _ c.read_at.new.into (omega arith) (omega arith) c.in-Ok.ensures.bytes

pub returns-in-Ok-clause-reads : goal.returns-in-Ok-clause-reads
returns-in-Ok-clause-reads g c =
    reads_once _ _ _ _ _ _ (g.met.D.Disk.only_now c.args.disk.now) c.read_at.ensures.seen c.read_at.ensures.same c.read_at.ensures.crash c.read_at.ensures.time

pub returns-in-Err-clause-fault : goal.returns-in-Err-clause-fault
returns-in-Err-clause-fault g c = λ is. rose_told _ _ _ _ c.faults-before.ensures c.faults.ensures (c.has_risen.ensures.0 c.if-has_risen.true)

pub returns-in-Err-clause-reads : goal.returns-in-Err-clause-reads
returns-in-Err-clause-reads g c =
    reads_once _ _ _ _ _ _ (g.met.D.Disk.only_now c.args.disk.now) c.read_at.ensures.seen c.read_at.ensures.same c.read_at.ensures.crash c.read_at.ensures.time

pub returns-in-Err-2-clause-fault : goal.returns-in-Err-2-clause-fault
returns-in-Err-2-clause-fault g c = λ is. want_no_fault is

pub returns-in-Err-2-clause-reads : goal.returns-in-Err-2-clause-reads
returns-in-Err-2-clause-reads g c =
    reads_once _ _ _ _ _ _ (g.met.D.Disk.only_now c.args.disk.now) c.read_at.ensures.seen c.read_at.ensures.same c.read_at.ensures.crash c.read_at.ensures.time
