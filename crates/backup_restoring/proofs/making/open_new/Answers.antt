use Rattle.std.proofs.Common.{sym, subst}
use Rattle.backup_restoring.specs.Inner.Making.{FailsMade}
use Rattle.backup_restoring.specs.declared.fault.RestoreFault.{RestoreFault}
use Rattle.backup_restoring.proofs.News.{open_fails}
use Rattle.backup_restoring.proofs.making.open_new.Goals as goal

pub returns-in-Err-clause-fault : goal.returns-in-Err-clause-fault
returns-in-Err-clause-fault g c =
    subst (λ (fault : RestoreFault). FailsMade fault (g.D.Disk.moment c.args.disk) (g.D.Disk.moment c.in-Err.disk)) (sym c.open_fault.ensures)
    (open_fails c.in-Err.cause (g.D.Disk.moment c.args.disk) (g.D.Disk.moment c.in-Err.disk) c.in-Err.ensures.opened c.in-Err.ensures.reads c.in-Err.ensures.cause)
