use Rattle.std.proofs.Common.{subst}
use Rattle.snapshot_manager.specs.Seats.{last_place, seen, start}
use Rattle.afl_session.specs.Inner.Serving.{GoesOn, reached}
use Rattle.afl_session.specs.Marked.{IsMarked}
use Rattle.afl_session.proofs.ServingLemmas.{goes_nowhere, nothing_told, piece_told, too_long_told}
use Rattle.afl_session.proofs.scripts.session.Session.take_step.Goals as goal

pub returns-in-More-clause-goes_on : goal.returns-in-More-clause-goes_on
returns-in-More-clause-goes_on g c session own = goes_nowhere _ _ _ _ (nothing_told c.args.step _ c.in-More.is)

pub returns-in-Piece-clause-goes_on : goal.returns-in-Piece-clause-goes_on
returns-in-Piece-clause-goes_on g c session own =
    subst (λ statements. GoesOn (IsMarked c.args.options.now.style g.D.Disk.moment (start g.D.Disk.moment c.args.shared.now) session)
    (reached (seen c.args.seat) (last_place c.args.seat) (g.K.Sink.state c.args.self.now.sink))
    (reached (seen c.answer_statement.result.1) (last_place c.answer_statement.result.1) (g.K.Sink.state c.answer_statement.new.sink))
    c.args.self.now.marks.items c.answer_statement.new.marks.items statements c.answer_statement.result.0)
    (piece_told c.args.step c.args.self.now.splitter _ _ _ c.in-Piece.is c.piece-from.ensures.start c.piece-from.ensures.end c.piece-from.ensures.bytes)
    (c.answer_statement.ensures.goes_on session own)

pub returns-in-TooLong-clause-goes_on : goal.returns-in-TooLong-clause-goes_on
returns-in-TooLong-clause-goes_on g c session own =
    subst (λ statements. GoesOn (IsMarked c.args.options.now.style g.D.Disk.moment (start g.D.Disk.moment c.args.shared.now) session)
    (reached (seen c.args.seat) (last_place c.args.seat) (g.K.Sink.state c.args.self.now.sink))
    (reached (seen c.answer_statement-in-TooLong.result.1) (last_place c.answer_statement-in-TooLong.result.1)
    (g.K.Sink.state c.answer_statement-in-TooLong.new.sink))
    c.args.self.now.marks.items c.answer_statement-in-TooLong.new.marks.items statements c.answer_statement-in-TooLong.result.0)
    (too_long_told c.args.step c.args.self.now.splitter _ _ c.in-TooLong.is c.piece-from.ensures.start c.piece-from.ensures.end)
    (c.answer_statement-in-TooLong.ensures.goes_on session own)
