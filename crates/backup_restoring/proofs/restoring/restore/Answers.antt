use Rattle.std.proofs.Common.{ℕ, List, IsTrue, IfSome, subst}
use Rattle.std.specs.Prelude.{OnOk}
use Rattle.backup_restoring.specs.Restores.{IsTested}
use Rattle.backup_restoring.specs.Inner.Making.{IsRestoredFrom}
use Rattle.backup_restoring.proofs.Restored.{bytes_answer, measure_answer, source_answer}
use Rattle.backup_restoring.proofs.restoring.restore.Goals as goal

pub returns-in-Ok-read_to_end : goal.returns-in-Ok-read_to_end
returns-in-Ok-read_to_end g c =
    let s = g.S.Source.state c.args.source.now in
    let t = g.S.Source.state c.read_to_end.new.source in
    let old = g.D.Disk.moment c.args.disk in
    let mid = g.D.Disk.moment c.measure.new.disk in
    let new = g.D.Disk.moment c.restore_bytes.result.1 in
    let a = bytes_answer c.args.pages s t c.in-Ok-read_to_end.bytes old mid new c.restore_bytes.result.0 c.in-Ok.ensures.measured c.in-Ok.ensures.reads c.in-Ok-read_to_end.ensures
    (subst (λ (bytes : List ℕ). IsTested c.args.pages bytes c.restore_bytes.result.0) c.as_slice.ensures c.restore_bytes.ensures.tested)
    (subst (λ (bytes : List ℕ). OnOk c.restore_bytes.result.0 (IsTrue mid.state.honest → IfSome mid.state.seen (λ _. IsRestoredFrom bytes new))) c.as_slice.ensures c.restore_bytes.ensures.restored) c.restore_bytes.ensures.same c.restore_bytes.ensures.fault in
    record { measured = a.measured; tested = a.tested; restored = a.restored; kept = a.kept; read = a.read; same = a.same; cause = a.cause }

pub returns-in-Err-read_to_end : goal.returns-in-Err-read_to_end
returns-in-Err-read_to_end g c =
    let s = g.S.Source.state c.args.source.now in
    let t = g.S.Source.state c.read_to_end.new.source in
    let old = g.D.Disk.moment c.args.disk in
    let mid = g.D.Disk.moment c.measure.new.disk in
    let a = source_answer c.args.pages s t old mid c.in-Err-read_to_end.fault c.in-Ok.ensures.measured c.in-Ok.ensures.reads c.in-Err-read_to_end.ensures in
    record { measured = a.measured; tested = a.tested; restored = a.restored; kept = a.kept; read = a.read; same = a.same; cause = a.cause }

pub returns-in-Err : goal.returns-in-Err
returns-in-Err g c =
    let s = g.S.Source.state c.args.source.now in
    let old = g.D.Disk.moment c.args.disk in
    let mid = g.D.Disk.moment c.measure.new.disk in
    let a = measure_answer c.args.pages s old mid c.in-Err.fault c.in-Err.ensures.measured c.in-Err.ensures.reads c.in-Err.ensures.fault in
    record { measured = a.measured; tested = a.tested; restored = a.restored; kept = a.kept; read = a.read; same = a.same; cause = a.cause }
