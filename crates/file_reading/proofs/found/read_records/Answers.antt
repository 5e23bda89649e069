use Rattle.page_chain.proofs.RunLemmas.{reads_none}
use Rattle.file_reading.proofs.found.read_records.Goals as goal

pub returns-in-Err-clause-reads : goal.returns-in-Err-clause-reads
returns-in-Err-clause-reads g c = reads_none (g.D.Disk.moment c.args.file.now.disk).state _ _ (g.met.D.Disk.only_now c.args.file.now.disk)
