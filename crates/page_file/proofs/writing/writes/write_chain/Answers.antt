use Rattle.std.specs.Prelude.{OnOk}
use Rattle.page_chain.specs.Places.{KeepsPages}
use Rattle.page_chain.specs.Pages.{page_size}
use Rattle.page_chain.specs.Chains.{HoldsChain}
use Rattle.page_file.proofs.Stays.{pages_sound, writes_opens, pages_slots}
use Rattle.page_file.proofs.writing.writes.write_chain.Goals as goal

pub write_chain-requires : goal.write_chain-requires
write_chain-requires g c = record {
  pages = c.requires.pages;
  distinct = c.requires.free.distinct;
}

pub returns : goal.returns
returns g c = record {
  slots = pages_slots c.args.slots.now c.empty.new.self c.unwritten-slots.result c.args.pages.now c.empty.ensures c.unwritten-slots.ensures;
  sound = pages_sound c.args.slots.now c.empty.new.self c.unwritten-slots.result c.args.pages.now (g.D.Disk.moment c.args.disk.now).state (g.D.Disk.moment c.write_chain.new.disk).state (g.D.Disk.moment c.args.disk.now).left_since (g.D.Disk.moment c.write_chain.new.disk).left_since (g.D.Disk.moment c.args.disk.now).may_leave (g.D.Disk.moment c.write_chain.new.disk).may_leave
      (λ seen now. KeepsPages c.args.pages.now seen now × OnOk c.write_chain.result (HoldsChain page_size now c.args.pages.now c.args.bytes.now)) c.empty.ensures c.unwritten-slots.ensures c.requires.closed c.requires.free c.write_chain.ensures.writes c.write_chain.ensures.seen (λ seen now told. told.0);
  opens = writes_opens c.args.slots.now c.args.pages.now (g.D.Disk.moment c.args.disk.now).state (g.D.Disk.moment c.write_chain.new.disk).state (g.D.Disk.moment c.args.disk.now).left_since (g.D.Disk.moment c.write_chain.new.disk).left_since (g.D.Disk.moment c.args.disk.now).may_leave (g.D.Disk.moment c.write_chain.new.disk).may_leave c.requires.closed c.requires.free c.write_chain.ensures.writes;
  seen = c.write_chain.ensures.seen;
  cause = c.write_chain.ensures.cause;
  writes = c.write_chain.ensures.writes;
}
