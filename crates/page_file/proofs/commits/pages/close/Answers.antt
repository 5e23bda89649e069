use Rattle.std.proofs.Common.{refl, arith, [], ◌∷◌}
use Rattle.page_chain.specs.Standing.{gate_place, target_page}
use Rattle.page_file.proofs.GoingLemmas.{stays_known, put_goes, put_keeps, reread_of}
use Rattle.page_file.proofs.SlotLemmas.{closed_now}
use Rattle.page_file.proofs.commits.pages.close.Goals as goal

pub returns-in-Err : goal.returns-in-Err
returns-in-Err g c =
    let old = c.args.file.now in
    let new = c.close_slot.new.self in
    let page = target_page old.slots.target old.slots in
    record {
      slots = c.in-Err.ensures.slots;
      closed = tt;
      known = stays_known old.slots new.slots (g.D.Disk.moment old.disk) (g.D.Disk.moment new.disk) c.in-Err.ensures.writes.same c.in-Err.ensures.sound;
      goes = λ seen known.
          put_goes old.slots old.slots (target_page old.slots.target old.slots) (gate_place old.slots.target old.slots) 1 seen (g.D.Disk.moment old.disk) (g.D.Disk.moment new.disk) refl known c.requires (g.met.D.Disk.as_read old.disk) (omega arith) (omega arith)
          c.in-Err.ensures.writes c.in-Err.ensures.opens;
      seen = λ seen known.
          reread_of (page ∷ []) seen old.slots (g.D.Disk.moment old.disk) (g.D.Disk.moment new.disk) known
          (put_keeps old.slots page (gate_place old.slots.target old.slots) 1 seen (g.D.Disk.moment old.disk) (g.D.Disk.moment new.disk) refl known c.requires (g.met.D.Disk.as_read old.disk) (omega arith) (omega arith) c.in-Err.ensures.writes);
      same = c.in-Err.ensures.writes.same;
      cause = c.in-Err.ensures.cause;
    }

pub returns-in-Ok : goal.returns-in-Ok
returns-in-Ok g c =
    let old = c.args.file.now in
    let new = c.close_slot.new.self in
    let page = target_page old.slots.target old.slots in
    record {
      slots = c.in-Ok.ensures.slots;
      closed = closed_now old.slots new.slots c.in-Ok.ensures.slots;
      known = stays_known old.slots new.slots (g.D.Disk.moment old.disk) (g.D.Disk.moment new.disk) c.in-Ok.ensures.writes.same c.in-Ok.ensures.sound;
      goes = λ seen known.
          put_goes old.slots old.slots (target_page old.slots.target old.slots) (gate_place old.slots.target old.slots) 1 seen (g.D.Disk.moment old.disk) (g.D.Disk.moment new.disk) refl known c.requires (g.met.D.Disk.as_read old.disk) (omega arith) (omega arith)
          c.in-Ok.ensures.writes c.in-Ok.ensures.opens;
      seen = λ seen known.
          reread_of (page ∷ []) seen old.slots (g.D.Disk.moment old.disk) (g.D.Disk.moment new.disk) known
          (put_keeps old.slots page (gate_place old.slots.target old.slots) 1 seen (g.D.Disk.moment old.disk) (g.D.Disk.moment new.disk) refl known c.requires (g.met.D.Disk.as_read old.disk) (omega arith) (omega arith) c.in-Ok.ensures.writes);
      same = c.in-Ok.ensures.writes.same;
      cause = tt;
    }
