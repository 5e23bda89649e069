use Rattle.page_file.proofs.Told.{front_told, front_cut, front_failed, front_cause}
use Rattle.page_file.proofs.PageReads.{device_cause}
use Rattle.page_file.proofs.opening.opening.read_front.Goals as goal

pub returns-in-Err : goal.returns-in-Err
returns-in-Err g c = record {
  front = front_failed c.in-Err.fault (g.D.Disk.moment c.args.disk.now).state (g.D.Disk.moment c.read_page.new.disk).state _ c.in-Err.ensures.cause;
  read = tt;
  reads = c.in-Err.ensures.reads;
  cause = device_cause c.in-Err.fault (g.D.Disk.moment c.args.disk.now).state (g.D.Disk.moment c.read_page.new.disk).state c.in-Err.ensures.cause;
}

pub returns-then-whole : goal.returns-then-whole
returns-then-whole g c = record {
  front = front_told c.read_page.new.page _ c.front_of.result c.in-Ok.whole c.read_page.ensures.size c.in-Ok.ensures.bytes c.if-whole.true c.front_of.ensures.read c.front_of.ensures.front;
  read = c.front_of.ensures.read;
  reads = c.read_page.ensures.reads;
  cause = front_cause c.front_of.result (g.D.Disk.moment c.args.disk.now).state (g.D.Disk.moment c.read_page.new.disk).state c.front_of.ensures.fault;
}

pub returns-else-whole : goal.returns-else-whole
returns-else-whole g c = record {
  front = front_cut c.read_page.new.page _ c.in-Ok.whole c.in-Ok.ensures.bytes c.if-whole.false;
  read = tt;
  reads = c.read_page.ensures.reads;
  cause = tt;
}
