use Rattle.std.proofs.Common.{◌∙◌, Err, Ok, ap, refl, subst, sym}
use Rattle.session_answers.specs.Inner.Steps.{Tells}
use Rattle.session_answers.proofs.answers.committing.tell.Goals as goal

pub returns-in-Ok-Done : goal.returns-in-Ok-Done
returns-in-Ok-Done g c =
    let arm = c.in-Ok-Done in
    let said = c.at_place.ensures in
    subst (λ answer. Tells c.args.count c.args.words answer (Ok c.at_place.result)) (sym (arm.is ∙ ap Ok arm.field-0-is)) (said.words, rw arm.field-0-is at said.place)

pub returns-in-Ok-Stale : goal.returns-in-Ok-Stale
returns-in-Ok-Stale g c =
    let arm = c.in-Ok-Stale in
    rw arm.field-0-is (subst (λ answer. Tells c.args.count c.args.words answer (Err arm.turn)) (sym (arm.is ∙ ap Ok arm.field-0-is)) refl)

pub returns-in-Err : goal.returns-in-Err
returns-in-Err g c =
    subst (λ answer. Tells c.args.count c.args.words answer (Ok c.uncommitted.result)) (sym c.in-Err.is) c.uncommitted.ensures
