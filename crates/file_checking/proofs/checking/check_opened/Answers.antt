use Rattle.page_chain.proofs.RunLemmas.{reads_on}
use Rattle.file_checking.proofs.Opened.{cause_of, none_found, some_found}
use Rattle.file_checking.proofs.checking.check_opened.Goals as goal

pub returns-in-Ok-clause-told : goal.returns-in-Ok-clause-told
returns-in-Ok-clause-told g c =
    let file = c.args.file.now in
    some_found c.in-Ok.found c.check_found-answer.result (g.D.Disk.moment file.disk).state.seen (g.D.Disk.moment c.read_found.new.file.disk).state.seen file.slots c.in-Ok.ensures.reads.seen c.requires.opens c.in-Ok.ensures.exact c.check_found-answer.ensures.told

pub returns-in-Ok-clause-reads : goal.returns-in-Ok-clause-reads
returns-in-Ok-clause-reads g c = reads_on _ _ _ _ _ _ _ _ _ c.in-Ok.ensures.reads c.check_found-answer.ensures.reads

pub returns-in-Err-clause-told : goal.returns-in-Err-clause-told
returns-in-Err-clause-told g c =
    let file = c.args.file.now in
    none_found c.in-Err.cause c.fault_of.result (g.D.Disk.moment file.disk).state.seen file.slots c.fault_of.ensures c.requires.opens c.in-Err.ensures.exact

pub returns-in-Err-clause-cause : goal.returns-in-Err-clause-cause
returns-in-Err-clause-cause g c =
    cause_of c.in-Err.cause c.fault_of.result (g.D.Disk.moment c.args.file.now.disk).state (g.D.Disk.moment c.read_found.new.file.disk).state c.fault_of.ensures c.in-Err.ensures.fault
