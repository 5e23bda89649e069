use Rattle.page_chain.specs.Places.{KeepsPages}
use Rattle.page_file.proofs.Stays.{pages_sound, blob_sound, writes_opens, blob_slots, pages_slots}
use Rattle.page_file.proofs.writing.writes.write_blob.Goals as goal

pub write_blob-requires : goal.write_blob-requires
write_blob-requires g c = record {
  distinct = c.requires.free.distinct;
  pages = c.requires.pages;
}

pub returns-in-Ok : goal.returns-in-Ok
returns-in-Ok g c = record {
  slots = blob_slots c.args.slots.now c.empty.new.self c.zeroed_by-slots.result c.args.pages.now c.args.bytes.now c.empty.ensures c.zeroed_by-slots.ensures;
  sound = blob_sound c.args.slots.now c.empty.new.self c.zeroed_by-slots.result c.args.pages.now c.args.bytes.now (g.D.Disk.moment c.args.disk.now).state (g.D.Disk.moment c.write_blob.new.disk).state (g.D.Disk.moment c.args.disk.now).left_since (g.D.Disk.moment c.write_blob.new.disk).left_since (g.D.Disk.moment c.args.disk.now).may_leave (g.D.Disk.moment c.write_blob.new.disk).may_leave
      c.empty.ensures c.zeroed_by-slots.ensures c.requires.closed c.requires.free c.write_blob.ensures.writes c.in-Ok.ensures.seen;
  opens = writes_opens c.args.slots.now c.args.pages.now (g.D.Disk.moment c.args.disk.now).state (g.D.Disk.moment c.write_blob.new.disk).state (g.D.Disk.moment c.args.disk.now).left_since (g.D.Disk.moment c.write_blob.new.disk).left_since (g.D.Disk.moment c.args.disk.now).may_leave (g.D.Disk.moment c.write_blob.new.disk).may_leave c.requires.closed c.requires.free c.write_blob.ensures.writes;
  seen = c.in-Ok.ensures.seen;
  cause = tt;
  writes = c.in-Ok.ensures.writes;
}

pub returns-in-Err : goal.returns-in-Err
returns-in-Err g c = record {
  slots = pages_slots c.args.slots.now c.empty.new.self c.unwritten-slots.result c.args.pages.now c.empty.ensures c.unwritten-slots.ensures;
  sound = pages_sound c.args.slots.now c.empty.new.self c.unwritten-slots.result c.args.pages.now (g.D.Disk.moment c.args.disk.now).state (g.D.Disk.moment c.write_blob.new.disk).state (g.D.Disk.moment c.args.disk.now).left_since (g.D.Disk.moment c.write_blob.new.disk).left_since (g.D.Disk.moment c.args.disk.now).may_leave (g.D.Disk.moment c.write_blob.new.disk).may_leave
      (λ seen now. KeepsPages c.args.pages.now seen now × Unit {0}) c.empty.ensures c.unwritten-slots.ensures c.requires.closed c.requires.free c.write_blob.ensures.writes c.in-Err.ensures.seen (λ seen now told. told.0);
  opens = writes_opens c.args.slots.now c.args.pages.now (g.D.Disk.moment c.args.disk.now).state (g.D.Disk.moment c.write_blob.new.disk).state (g.D.Disk.moment c.args.disk.now).left_since (g.D.Disk.moment c.write_blob.new.disk).left_since (g.D.Disk.moment c.args.disk.now).may_leave (g.D.Disk.moment c.write_blob.new.disk).may_leave c.requires.closed c.requires.free c.write_blob.ensures.writes;
  seen = c.in-Err.ensures.seen;
  cause = c.in-Err.ensures.cause;
  writes = c.in-Err.ensures.writes;
}
