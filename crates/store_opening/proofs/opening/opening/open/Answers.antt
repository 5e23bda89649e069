use Rattle.store_opening.proofs.Parts.{opened_so}
use Rattle.store_opening.proofs.Read.{unopened_so}
use Rattle.store_opening.proofs.opening.opening.open.Goals as goal

pub returns-in-Err-clause-told : goal.returns-in-Err-clause-told
returns-in-Err-clause-told g c = unopened_so c.in-Err.failed.0 (g.D.Disk.moment c.args.disk).state.seen c.in-Err.ensures.opened

pub returns-in-Ok-clause-opened : goal.returns-in-Ok-clause-opened
returns-in-Ok-clause-opened g c =
    opened_so g.D.Disk.moment c.args.disk c.in-Ok.file c.open_parts.result c.in-Ok.ensures.reads c.in-Ok.ensures.durable c.open_parts.ensures.opened c.open_parts.ensures.slots c.open_parts.ensures.reads
