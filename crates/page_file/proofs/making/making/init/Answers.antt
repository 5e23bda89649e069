use Rattle.std.proofs.Common.{◌≡◌, List, ℕ, length, Option, None, Some, IfSome}
use Rattle.std.specs.Prelude.{◌≢◌}
use Rattle.page_chain.specs.Puts.{OnlySyncs}
use Rattle.page_chain.proofs.PutLemmas.{if_some}
use Rattle.page_file.proofs.making.making.init.Goals as goal

always : (o : Option (List ℕ)) (P : Type 0) → P → IfSome o (λ seen. length seen ≢ 0 → P)
always None P is = tt
always (Some seen) P is = λ some. is

pub returns-in-Ok-clause-not_written : goal.returns-in-Ok-clause-not_written
returns-in-Ok-clause-not_written g c =
    let moment = g.D.Disk.moment in
    if_some (moment c.args.disk.now).state.seen (λ (seen : List ℕ). length seen ≡ 0)
    (λ (seen : List ℕ). length seen ≢ 0 → OnlySyncs (moment c.args.disk.now) (moment c.make_first.new.disk))
    (λ seen none. λ some. absurd (some none)) c.in-Ok.ensures.init

pub returns-in-Err-clause-not_written : goal.returns-in-Err-clause-not_written
returns-in-Err-clause-not_written g c =
    let moment = g.D.Disk.moment in
    always (moment c.args.disk.now).state.seen (OnlySyncs (moment c.args.disk.now) (moment c.measure.new.disk)) c.measure.ensures.reads
