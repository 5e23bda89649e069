use Rattle.std.proofs.Common.{List, sym, subst}
use Rattle.page_file.specs.declared.commits.placed.Placed.{Placed}
use Rattle.store_sealing.specs.Inner.Writing.{CameTo, MayBeWritten}
use Rattle.store_sealing.proofs.Came.{no_fall, count_of}
use Rattle.store_sealing.proofs.sealing.sealing.writing.write_prepared.Goals as goal

pub write-end-requires : goal.write-end-requires
write-end-requires g c =
    let p = c.args.prepared.now in
    subst (λ (blobs : List Placed). MayBeWritten p.base c.args.file.now.slots blobs p.chain) (sym c.as_slice.ensures) c.requires.written

pub has_risen-rose-requires : goal.has_risen-rose-requires
has_risen-rose-requires g c =
    let moment = g.D.Disk.moment in
    no_fall c.faults-before.result c.faults-now.result (moment c.args.file.now.disk).state (moment c.write-end.new.file.disk).state
    c.faults-before.ensures c.faults-now.ensures c.write-end.ensures.same

pub returns : goal.returns
returns g c =
    let moment = g.D.Disk.moment in
    let p = c.args.prepared.now in
    let old = c.args.file.now in
    let new = c.write-end.new.file in
    let e = c.write-end.ensures in
    let is : CameTo p.base old.slots new.slots c.as_slice.result.now p.chain (moment old.disk) (moment new.disk) c.write-end.result c.has_risen-rose.result = record {
      done = e.done;
      stopped = e.stopped;
      known = e.known;
      during = e.during;
      same = e.same;
      cause = e.cause;
      count = count_of c.has_risen-rose.result c.faults-before.result c.faults-now.result (moment old.disk).state (moment new.disk).state
          c.faults-before.ensures c.faults-now.ensures c.has_risen-rose.ensures;
    } in
    record {
      came = subst (λ (blobs : List Placed). CameTo p.base old.slots new.slots blobs p.chain (moment old.disk) (moment new.disk) c.write-end.result c.has_risen-rose.result) c.as_slice.ensures is;
      acked = c.keep_moment.ensures;
    }
