use Rattle.std.proofs.Common.{◌≡◌, ◌∙◌, List, [], Ok, Err, subst}
use Rattle.logical_plan.specs.declared.parts.Applied.{Applied}
use Rattle.check_cellwise.specs.Apply.{applied_one}
use Rattle.check_rules.proofs.Turns.{pairs_turn}
use Rattle.check_rules.specs.Checked.{Answers, Checked}
use Rattle.check_rules.specs.InTurn.{pairs_in_turn}
use Rattle.check_cellwise.proofs.Stops.{handed_on, pairs_stop}
use Rattle.check_cellwise.proofs.cells.apply.applied_all.Goals as goal

pub loop-left-preserved : goal.loop-left-preserved
loop-left-preserved c =
    let one : applied_one c.args.source.now c.loop-left.done c.name-item.result c.value-item.result ≡ Ok c.in_ok-applied.applied =
    subst (λ (done : List Applied). applied_one c.args.source.now done c.name-item.result c.value-item.result ≡ Ok c.in_ok-applied.applied) c.as_slice.ensures c.in_ok-applied.ensures in
    rw c.in_ok-push.ensures.ok (pairs_turn (applied_one c.args.source.now) c.loop-left.done c.loop-left.left.now c.name-item.result c.value-item.result c.in_ok-applied.applied
    c.in-len2-up.len_at_least c.name-item.is c.value-item.is one ∙ c.loop-left.invariant)

pub returns-in_err-applied : goal.returns-in_err-applied
returns-in_err-applied c =
    let fault = c.in_err-applied.field-0.0 in
    let step = applied_one c.args.source.now in
    let broken : Answers {A = Applied} (Err fault) (step c.loop-left.done c.name-item.result c.value-item.result) =
    subst (λ (done : List Applied). Answers {A = Applied} (Err fault) (step done c.name-item.result c.value-item.result)) c.as_slice.ensures c.in_err-applied.ensures in
    handed_on c.from_residual.result fault (pairs_in_turn step [] c.args.arguments.now) c.from_residual.ensures.1
    (subst (λ (checked : Checked (List Applied)). Answers {A = List Applied} (Err fault) checked) c.loop-left.invariant
    (pairs_stop step c.loop-left.done c.loop-left.left.now c.name-item.result c.value-item.result fault c.in-len2-up.len_at_least c.name-item.is
    c.value-item.is broken))
