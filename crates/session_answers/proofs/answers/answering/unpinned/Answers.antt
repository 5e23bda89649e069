use Rattle.std.proofs.Common.{◌∙◌, subst, sym}
use Rattle.session_answers.specs.Inner.Tree.{TellsUnpinned}
use Rattle.session_answers.proofs.answers.answering.unpinned.Goals as goal

pub returns-in-HistoryFull : goal.returns-in-HistoryFull
returns-in-HistoryFull c =
    let e = c.refusal_at.ensures in
    subst (λ fault. TellsUnpinned c.args.seen fault c.refusal_at.result) (sym c.in-HistoryFull.is) (e.words, e.place ∙ c.from-place.ensures)

pub returns-in-Memory : goal.returns-in-Memory
returns-in-Memory c =
    let e = c.want.ensures in
    subst (λ fault. TellsUnpinned c.args.seen fault c.want.result) (sym c.in-Memory.is) (e.want, e.place)
