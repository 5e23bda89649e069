use Rattle.page_file.proofs.Told.{log_told, log_cut, log_zero, log_failed, log_fits, log_cause}
use Rattle.page_file.proofs.PageReads.{device_cause, syncs_none}
use Rattle.page_file.proofs.opening.opening.read_log.Goals as goal

pub returns-else-whole : goal.returns-else-whole
returns-else-whole g c = record {
  log = log_cut c.args.log c.read_page.new.page _ c.in-Ok.whole c.in-Ok.ensures.bytes c.if-whole.false;
  fits = tt;
  reads = c.read_page.ensures.reads;
  cause = tt;
}

pub returns-then-whole : goal.returns-then-whole
returns-then-whole g c = record {
  log = log_told c.args.log c.read_page.new.page _ c.log_of.result c.in-Ok.whole c.if-log-eq0.false c.in-Ok.ensures.bytes c.if-whole.true c.log_of.ensures;
  fits = log_fits c.read_page.new.page c.args.log c.log_of.result c.log_of.ensures;
  reads = c.read_page.ensures.reads;
  cause = log_cause c.read_page.new.page c.args.log c.log_of.result (g.D.Disk.moment c.args.disk.now).state (g.D.Disk.moment c.read_page.new.disk).state c.log_of.ensures;
}

pub returns-then-log-eq0 : goal.returns-then-log-eq0
returns-then-log-eq0 g c = record {
  log = log_zero c.args.log _ c.if-log-eq0.true;
  fits = tt;
  reads = syncs_none (g.D.Disk.moment c.args.disk.now).state (g.D.Disk.moment c.args.disk.now).left_since (g.D.Disk.moment c.args.disk.now).may_leave (g.met.D.Disk.only_now c.args.disk.now);
  cause = tt;
}

pub returns-in-Err : goal.returns-in-Err
returns-in-Err g c = record {
  log = log_failed c.in-Err.fault c.args.log (g.D.Disk.moment c.args.disk.now).state (g.D.Disk.moment c.read_page.new.disk).state _ c.in-Err.ensures.cause;
  fits = tt;
  reads = c.in-Err.ensures.reads;
  cause = device_cause c.in-Err.fault (g.D.Disk.moment c.args.disk.now).state (g.D.Disk.moment c.read_page.new.disk).state c.in-Err.ensures.cause;
}
