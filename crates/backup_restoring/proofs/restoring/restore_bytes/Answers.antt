use Rattle.std.proofs.Common.{◌+◌, ◌≤◌, ◌^◌, List, IsTrue, IfSome, sym, subst, arith}
use Rattle.std.specs.Prelude.{OnOk}
use Rattle.page_chain.proofs.RunLemmas.{stands}
use Rattle.page_file.proofs.PageReads.{syncs_none}
use Rattle.backup_format.specs.PiecePlaces.{arrays_in}
use Rattle.backup_format.specs.declared.arrays.ArrayAt.{ArrayAt}
use Rattle.backup_restoring.specs.Restores.{restore_pages}
use Rattle.backup_restoring.specs.Inner.Writing.{IsMade}
use Rattle.backup_restoring.proofs.Restored.{all_made, made_faults, made_tested, read_fault, read_tested}
use Rattle.backup_restoring.proofs.restoring.restore_bytes.Goals as goal

pub make-requires : goal.make-requires
make-requires g c =
    let fits = c.in-Ok.ensures.fits in
    record { room = subst (λ (arrays : List ArrayAt). 3 + restore_pages (arrays_in c.args.bytes.now arrays) ≤ 2 ^ 32) (sym c.as_slice.ensures) (omega (arith, fits, c.ranges.pages.fits)) }

pub returns-in-Ok : goal.returns-in-Ok
returns-in-Ok g c =
    let bytes = c.args.bytes.now in
    let all = arrays_in bytes c.in-Ok.arrays in
    let old = g.D.Disk.moment c.args.disk in
    let new = g.D.Disk.moment c.make.result.1 in
    let may = c.in-Ok.ensures in
    record {
      tested = made_tested c.args.pages bytes c.in-Ok.arrays old new c.make.result.0 may c.make.ensures.fault;
      restored = all_made bytes all old new c.make.result.0 (λ i. omega (arith, c.type_inv.bytes i)) may.read may.rules
          (subst (λ (arrays : List ArrayAt). OnOk c.make.result.0 (IsTrue old.state.honest → IfSome old.state.seen (λ _. IsMade (arrays_in bytes arrays) new))) c.as_slice.ensures c.make.ensures.made);
      same = c.make.ensures.same;
      fault = made_faults c.make.result.0 old new c.make.ensures.fault;
    }

pub returns-in-Err : goal.returns-in-Err
returns-in-Err g c =
    let at = g.D.Disk.moment c.args.disk in
    record {
      tested = read_tested c.args.pages c.args.bytes.now c.in-Err.fault c.in-Err.ensures;
      restored = tt;
      same = stands at.state;
      fault = read_fault c.args.pages c.args.bytes.now c.in-Err.fault at (syncs_none at.state at.left_since at.may_leave (g.met.D.Disk.only_now c.args.disk)) c.in-Err.ensures;
    }
