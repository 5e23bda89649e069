use Rattle.std.proofs.Common.{◌∙◌, ◌++◌, ℕ, List, ap}
use Rattle.event_core.proofs.Loops.{flat_more}
use Rattle.store_opening.proofs.bases.base.push_records.Goals as goal

pub loop-record-preserved : goal.loop-record-preserved
loop-record-preserved c =
    let l = c.loop-record in
    flat_more (λ (pages : List ℕ). pages) c.args.pages.now l.pages c.extend.new.self c.args.records.now l.record-index c.record-item.result
    c.loop-record-test.true c.record-item.is l.invariant (c.in_ok-extend.ensures.ok ∙ ap (λ (ys : List ℕ). l.pages ++ ys) c.as_slice.ensures)
