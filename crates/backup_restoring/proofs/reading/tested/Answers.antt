use Rattle.std.proofs.Common.{List, Ok, Err, subst}
use Rattle.backup_format.specs.PiecePlaces.{arrays_in}
use Rattle.backup_format.specs.declared.arrays.ArrayAt.{ArrayAt}
use Rattle.backup_restoring.specs.Restores.{restore_pages}
use Rattle.backup_restoring.specs.Inner.Steps.{IsFitting}
use Rattle.backup_restoring.proofs.Tested.{decoded_fault, fitting_fault, may_restore}
use Rattle.backup_restoring.proofs.reading.tested.Goals as goal

pub returns-in-Ok-fit : goal.returns-in-Ok-fit
returns-in-Ok-fit c =
    may_restore c.args.pages c.args.bytes.now c.in-Ok.arrays c.in-Ok.ensures
    (subst (λ (arrays : List ArrayAt). IsFitting c.args.pages (restore_pages (arrays_in c.args.bytes.now arrays)) (Ok tt)) c.as_slice.ensures c.in-Ok-fit.ensures)

pub returns-in-Err-fit : goal.returns-in-Err-fit
returns-in-Err-fit c =
    fitting_fault c.args.pages c.args.bytes.now (arrays_in c.args.bytes.now c.in-Ok.arrays) c.in-Err-fit.fault c.in-Ok.ensures.0
    (subst (λ (arrays : List ArrayAt). IsFitting c.args.pages (restore_pages (arrays_in c.args.bytes.now arrays)) (Err c.in-Err-fit.fault)) c.as_slice.ensures c.in-Err-fit.ensures)

pub returns-in-Err : goal.returns-in-Err
returns-in-Err c = decoded_fault c.args.pages c.args.bytes.now c.in-Err.fault c.in-Err.ensures
