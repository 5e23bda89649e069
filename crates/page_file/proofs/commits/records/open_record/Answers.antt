use Rattle.std.proofs.Common.{[], ◌∷◌, sym, ap, arith}
use Rattle.page_chain.specs.Standing.{gate_place, target_page}
use Rattle.page_chain.specs.declared.slots.slots.slots.Target.{Target}
use Rattle.page_file.specs.Commits.{record_of}
use Rattle.page_file.proofs.Opened.{record_open}
use Rattle.page_file.proofs.BlobLemmas.{all_on}
use Rattle.page_file.proofs.GoingLemmas.{stays_known, put_keeps, reread_of}
use Rattle.page_file.proofs.RecordLemmas.{ajar_goes}
use Rattle.page_file.proofs.SlotLemmas.{entry_opened, entry_ajar, entry_target}
use Rattle.page_file.proofs.commits.records.open_record.Goals as goal

pub open_slot-requires : goal.open_slot-requires
open_slot-requires g c = record {
  there = c.requires.there;
  ready = entry_target c.args.file.now.slots (record_of c.args.chain.now) c.requires.target c.requires.written;
  sure = c.requires.sure;
}

pub returns-in-Ok : goal.returns-in-Ok
returns-in-Ok g c =
    let old = c.args.file.now in
    let new = c.open_slot.new.self in
    let m0 = g.D.Disk.moment old.disk in
    record {
      slots = entry_opened old.slots new.slots (record_of c.args.chain.now) c.requires.target c.requires.written c.in-Ok.ensures.slots;
      known = stays_known old.slots new.slots (g.D.Disk.moment old.disk) (g.D.Disk.moment new.disk) c.in-Ok.ensures.writes.same c.in-Ok.ensures.sound;
      goes = λ seen known holds.
          ajar_goes old.slots c.args.blobs.now c.args.chain.now seen (g.D.Disk.moment old.disk) (g.D.Disk.moment new.disk) c.requires.target c.requires.there c.requires.sure c.requires.written c.requires.apart known holds (g.met.D.Disk.as_read old.disk)
          c.in-Ok.ensures.writes c.in-Ok.ensures.opens;
      done = λ seen known holds x left.
          let m1 = g.D.Disk.moment new.disk in
          let s = stays_known old.slots new.slots m0 m1 c.in-Ok.ensures.writes.same c.in-Ok.ensures.sound seen known in
          let went = ajar_goes old.slots c.args.blobs.now c.args.chain.now seen m0 m1 c.requires.target c.requires.there c.requires.sure c.requires.written c.requires.apart known holds (g.met.D.Disk.as_read old.disk) c.in-Ok.ensures.writes c.in-Ok.ensures.opens in
          let over = went.crash x left in (
            record_open old.slots new.slots (record_of c.args.chain.now) seen s.0 m0.may_leave m1.may_leave c.requires.written c.requires.sure c.requires.target c.in-Ok.ensures.slots known.sound s.1.sound x left,
            all_on old.slots.current.root.log c.args.blobs.now c.args.chain.now over.0 x c.requires.apart over.2 (holds over.0 over.1),
          );
      durable = c.in-Ok.ensures.durable;
      seen = λ seen known.
          let m1 = g.D.Disk.moment new.disk in
          reread_of (old.slots.current.root.log ∷ []) seen old.slots m0 m1 known
          (put_keeps old.slots (old.slots.current.root.log) (gate_place old.slots.target old.slots) 1 seen m0 m1 (sym (ap (λ (t : Target). target_page t old.slots) c.requires.target)) known c.requires.there (g.met.D.Disk.as_read old.disk) (omega arith) (omega arith) c.in-Ok.ensures.writes);
      same = c.in-Ok.ensures.writes.same;
      cause = tt;
    }

pub returns-in-Err : goal.returns-in-Err
returns-in-Err g c =
    let old = c.args.file.now in
    let new = c.open_slot.new.self in
    let m0 = g.D.Disk.moment old.disk in
    let m1 = g.D.Disk.moment c.open_slot.new.self.disk in
    record {
      slots = entry_ajar old.slots new.slots (record_of c.args.chain.now) c.requires.target c.requires.written c.in-Err.ensures.slots;
      known = stays_known old.slots new.slots (g.D.Disk.moment old.disk) (g.D.Disk.moment new.disk) c.in-Err.ensures.writes.same c.in-Err.ensures.sound;
      goes = λ seen known holds.
          ajar_goes old.slots c.args.blobs.now c.args.chain.now seen (g.D.Disk.moment old.disk) (g.D.Disk.moment new.disk) c.requires.target c.requires.there c.requires.sure c.requires.written c.requires.apart known holds (g.met.D.Disk.as_read old.disk)
          c.in-Err.ensures.writes c.in-Err.ensures.opens;
      done = tt;
      durable = tt;
      seen = λ seen known.
          reread_of (old.slots.current.root.log ∷ []) seen old.slots m0 m1 known
          (put_keeps old.slots (old.slots.current.root.log) (gate_place old.slots.target old.slots) 1 seen m0 m1 (sym (ap (λ (t : Target). target_page t old.slots) c.requires.target)) known c.requires.there (g.met.D.Disk.as_read old.disk) (omega arith) (omega arith) c.in-Err.ensures.writes);
      same = c.in-Err.ensures.writes.same;
      cause = c.in-Err.ensures.cause;
    }
