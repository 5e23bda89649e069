use Rattle.std.proofs.Common.{◌∙◌, Ok, Err, ap, refl, subst, sym}
use Rattle.session_answers.specs.Inner.Attempts.{TellsRead}
use Rattle.session_answers.specs.declared.replies.attempt.Attempt.{Attempt}
use Rattle.session_answers.proofs.replies.attempt.reply_read.Goals as goal

pub returns-in-Ok-Replied : goal.returns-in-Ok-Replied
returns-in-Ok-Replied c =
    let arm = c.in-Ok-Replied in
    let said = c.at_place.ensures in
    subst (λ outcome. TellsRead c.args.place outcome (Ok c.at_place.result)) (sym (arm.is ∙ ap Ok arm.field-0-is)) (rw arm.field-0-is at said.words, said.place)

pub returns-in-Ok-Changes : goal.returns-in-Ok-Changes
returns-in-Ok-Changes c =
    let arm = c.in-Ok-Changes in
    let attempt : Attempt = record { change = arm.change; changed = arm.changed; words = arm.reply } in
    rw arm.field-0-is (subst (λ outcome. TellsRead c.args.place outcome (Err attempt)) (sym (arm.is ∙ ap Ok arm.field-0-is)) refl)

pub returns-in-Err : goal.returns-in-Err
returns-in-Err c = subst (λ outcome. TellsRead c.args.place outcome (Ok c.unread.result)) (sym c.in-Err.is) (c.unread.ensures.words, c.unread.ensures.place)
