use Rattle.std.proofs.Common.{◌-◌, subst, sym}
use Rattle.std.specs.Option.{option_map}
use Rattle.snapshot_manager.specs.Seats.{last_place, seen, session_of, start}
use Rattle.afl_session.specs.Marked.{AnswersText, IsReplyOf}
use Rattle.afl_session.proofs.scripts.statements.reply_to.Goals as goal

pub returns-in-Some-clause-answered : goal.returns-in-Some-clause-answered
returns-in-Some-clause-answered g c =
    subst (λ text. IsReplyOf (AnswersText c.args.options.now.style g.D.Disk.moment (start g.D.Disk.moment c.args.shared.now) (session_of c.args.seat))
    (seen c.args.seat) (seen c.answer.result.1) (last_place c.args.seat) (c.args.to - c.args.from) (option_map (λ t. t.now) text) c.answer.result.0)
    (sym c.in-Some.is) c.answer.ensures.answered

pub returns-in-None-clause-answered : goal.returns-in-None-clause-answered
returns-in-None-clause-answered g c =
    subst (λ text. IsReplyOf (AnswersText c.args.options.now.style g.D.Disk.moment (start g.D.Disk.moment c.args.shared.now) (session_of c.args.seat))
    (seen c.args.seat) (seen c.too_long.result.1) (last_place c.args.seat) (c.args.to - c.args.from) (option_map (λ t. t.now) text) c.too_long.result.0)
    (sym c.in-None.is) c.too_long.ensures.answered
