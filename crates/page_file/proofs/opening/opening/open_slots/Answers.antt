use Rattle.page_file.proofs.PageReads.{nothing_told}
use Rattle.page_file.proofs.Told.{sound_told}
use Rattle.page_file.proofs.opening.opening.open_slots.Goals as goal

pub returns-in-Ok : goal.returns-in-Ok
returns-in-Ok g c = record {
  opened = c.in-Ok.ensures.opened;
  durable = c.in-Ok.ensures.durable;
  sound = λ honest. sound_told c.in-Ok.slots _ (g.D.Disk.moment c.open_parts.new.disk).may_leave c.in-Ok.ensures.fresh c.in-Ok.ensures.opened c.in-Ok.ensures.other (c.in-Ok.ensures.durable honest);
  fresh = c.in-Ok.ensures.fresh;
  reads = c.in-Ok.ensures.reads;
  cause = tt;
}

pub returns-in-Err : goal.returns-in-Err
returns-in-Err g c = record {
  opened = c.in-Err.ensures.opened;
  durable = tt;
  sound = λ honest. nothing_told (g.D.Disk.moment c.args.disk.now).state.seen;
  fresh = tt;
  reads = c.in-Err.ensures.reads;
  cause = c.in-Err.ensures.cause;
}
