use Rattle.page_file.proofs.PageReads.{syncs_none}
use Rattle.page_file.proofs.opening.opening.read_records.Goals as goal

pub returns-in-One-clause-reads : goal.returns-in-One-clause-reads
returns-in-One-clause-reads g c =
    let now = g.D.Disk.moment c.args.disk.now in
    syncs_none now.state now.left_since now.may_leave (g.met.D.Disk.only_now c.args.disk.now)
