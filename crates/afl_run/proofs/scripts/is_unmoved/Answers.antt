use Rattle.page_file.proofs.PageReads.{syncs_none}
use Rattle.afl_run.proofs.scripts.is_unmoved.Goals as goal

pub returns : goal.returns
returns g c = syncs_none (g.D.Disk.moment c.args.disk.now).state _ _ (g.met.D.Disk.only_now c.args.disk.now)
