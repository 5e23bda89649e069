use Rattle.std.proofs.Common.{subst, sym}
use Rattle.session_answers.specs.Inner.Tree.{TellsUnparsed}
use Rattle.session_answers.proofs.answers.answering.unparsed.Goals as goal

pub returns-in-At : goal.returns-in-At
returns-in-At c = subst (λ fault. TellsUnparsed c.args.last c.args.seen fault c.refusal_or_want.result) (sym c.in-At.is) c.refusal_or_want.ensures

pub returns-in-Memory : goal.returns-in-Memory
returns-in-Memory c =
    let e = c.want.ensures in
    subst (λ fault. TellsUnparsed c.args.last c.args.seen fault c.want.result) (sym c.in-Memory.is) (e.want, e.place)
