use Rattle.std.proofs.Common.{◌∙◌, inl, inr}
use Rattle.session_answers.proofs.replies.reply.refusal_or_want.Goals as goal

pub returns-in-Ok : goal.returns-in-Ok
returns-in-Ok c =
    let e = c.at_place.ensures in
    inl (e.words ∙ c.in-Ok.ensures, e.place)

pub returns-in-Err : goal.returns-in-Err
returns-in-Err c =
    let e = c.want.ensures in
    inr (e.want, e.place)
