use Rattle.std.proofs.Common.{◌≡◌, ◌∙◌, List, [], Ok, Err, subst}
use Rattle.logical_plan.specs.declared.parts.Fixed.{Fixed}
use Rattle.check_cellwise.specs.Slice.{fixed_one}
use Rattle.check_rules.proofs.Turns.{pairs_turn}
use Rattle.check_rules.specs.Checked.{Answers, Checked}
use Rattle.check_rules.specs.InTurn.{pairs_in_turn}
use Rattle.check_cellwise.proofs.Stops.{handed_on, pairs_stop}
use Rattle.check_cellwise.proofs.boxes.slice.fixed_all.Goals as goal

pub loop-left-preserved : goal.loop-left-preserved
loop-left-preserved c =
    let one : fixed_one c.args.dimensions.now c.loop-left.done c.name-item.result c.number-item.result ≡ Ok c.in_ok-fixed.fixed =
    subst (λ (done : List Fixed). fixed_one c.args.dimensions.now done c.name-item.result c.number-item.result ≡ Ok c.in_ok-fixed.fixed) c.as_slice.ensures c.in_ok-fixed.ensures in
    rw c.in_ok-push.ensures.ok (pairs_turn (fixed_one c.args.dimensions.now) c.loop-left.done c.loop-left.left.now c.name-item.result c.number-item.result c.in_ok-fixed.fixed
    c.in-len2-up.len_at_least c.name-item.is c.number-item.is one ∙ c.loop-left.invariant)

pub returns-in_err-fixed : goal.returns-in_err-fixed
returns-in_err-fixed c =
    let fault = c.in_err-fixed.field-0.0 in
    let step = fixed_one c.args.dimensions.now in
    let broken : Answers {A = Fixed} (Err fault) (step c.loop-left.done c.name-item.result c.number-item.result) =
    subst (λ (done : List Fixed). Answers {A = Fixed} (Err fault) (step done c.name-item.result c.number-item.result)) c.as_slice.ensures c.in_err-fixed.ensures in
    handed_on c.from_residual.result fault (pairs_in_turn step [] c.args.arguments.now) c.from_residual.ensures.1
    (subst (λ (checked : Checked (List Fixed)). Answers {A = List Fixed} (Err fault) checked) c.loop-left.invariant
    (pairs_stop step c.loop-left.done c.loop-left.left.now c.name-item.result c.number-item.result fault c.in-len2-up.len_at_least c.name-item.is
    c.number-item.is broken))
