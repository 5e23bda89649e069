use Rattle.std.proofs.Common.{arith, ◌*◌, length}
use Rattle.page_chain.proofs.Kept.{size_is}
use Rattle.page_chain.proofs.WriteLemmas.{wrote_page, wrote_there}
use Rattle.page_chain.proofs.page.write_page.Goals as goal

pub returns-clause-seen : goal.returns-clause-seen
returns-clause-seen g c = wrote_page c.args.page (c.args.page * 4096) c.args.piece.now (g.D.Disk.moment c.args.disk.now).state (g.D.Disk.moment c.write_at.new.self).state c.write_at.result (omega arith) c.requires c.write_at.ensures.written

pub returns-clause-writes : goal.returns-clause-writes
returns-clause-writes g c =
    wrote_there c.args.page (c.args.page * 4096) (length c.args.piece.now) _ _ _ _ _ _ (omega arith) (omega (arith, size_is)) (g.met.D.Disk.only_now c.args.disk.now)
    c.write_at.ensures.same c.write_at.ensures.crash c.write_at.ensures.time
