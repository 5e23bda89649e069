use Rattle.page_file.proofs.files.file.PageFile.open.Goals as goal

pub returns-in-Err : goal.returns-in-Err
returns-in-Err g c = record {
  opened = c.in-Err.ensures.opened;
  durable = tt;
  sound = c.in-Err.ensures.sound;
  fresh = tt;
  reads = c.in-Err.ensures.reads;
  cause = c.in-Err.ensures.cause;
}

pub returns-in-Ok : goal.returns-in-Ok
returns-in-Ok g c = record {
  opened = c.in-Ok.ensures.opened;
  durable = c.in-Ok.ensures.durable;
  sound = c.in-Ok.ensures.sound;
  fresh = c.in-Ok.ensures.fresh;
  reads = c.in-Ok.ensures.reads;
  cause = tt;
}
