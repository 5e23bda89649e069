use Rattle.std.proofs.Common.{subst, sym}
use Rattle.snapshot_manager.specs.Seats.{last_place, seen, session_of, start}
use Rattle.afl_session.specs.Marked.{IsMarked}
use Rattle.afl_session.specs.Session.{Serves}
use Rattle.afl_session.proofs.scripts.session.serve.Goals as goal

pub returns-clause-serves : goal.returns-clause-serves
returns-clause-serves g c =
    subst (λ marks. Serves (IsMarked c.args.options.now.style g.D.Disk.moment (start g.D.Disk.moment c.args.shared.now) (session_of c.args.seat))
    (seen c.args.seat) (last_place c.args.seat) (seen c.converse-end.result.1) (g.S.Source.state c.args.source) (g.S.Source.state c.converse-end.new.source)
    (g.K.Sink.state c.args.sink) (g.K.Sink.state c.converse-end.new.session.sink) marks c.converse-end.result.0)
    (sym c.from_vec.ensures) c.converse-end.ensures.serves
