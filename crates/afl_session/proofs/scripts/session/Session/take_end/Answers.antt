use Rattle.std.proofs.Common.{sym, subst}
use Rattle.snapshot_manager.specs.Seats.{last_place, seen, start}
use Rattle.afl_session.specs.Inner.Serving.{EndsServing, reached}
use Rattle.afl_session.specs.Marked.{IsMarked}
use Rattle.run_opening.specs.declared.reports.reports.SessionEnd.{SessionEnd}
use Rattle.afl_session.proofs.ScriptsEnding.{ends_stopped, ends_whole}
use Rattle.afl_session.proofs.scripts.session.Session.take_end.Goals as goal

pub returns-in-Ok-clause-ends : goal.returns-in-Ok-clause-ends
returns-in-Ok-clause-ends g c session first script own serving =
    ends_whole (IsMarked c.args.options.now.style g.D.Disk.moment (start g.D.Disk.moment c.args.shared.now) session) first _ _ script _ _ _ (c.finish-step.ensures.statements script serving.stands)
    serving.answered (rw c.in-Ok.is at (c.take_step-taken.ensures.goes_on session own))

pub returns-in-Err-clause-ends : goal.returns-in-Err-clause-ends
returns-in-Err-clause-ends g c session first script own serving =
    subst (λ (end : SessionEnd). EndsServing (IsMarked c.args.options.now.style g.D.Disk.moment (start g.D.Disk.moment c.args.shared.now) session) first
    (reached (seen c.take_step-taken.result.1) (last_place c.take_step-taken.result.1) (g.K.Sink.state c.take_step-taken.new.self.sink)) script c.take_step-taken.new.self.marks.items end) (sym c.end.ensures)
    (ends_stopped (IsMarked c.args.options.now.style g.D.Disk.moment (start g.D.Disk.moment c.args.shared.now) session) first _ _ script _ _ _ (c.finish-step.ensures.statements script serving.stands)
    serving.answered c.in-Err.stopped (rw c.in-Err.is at (c.take_step-taken.ensures.goes_on session own)))

pub take_step-taken-requires-clause-seat : goal.take_step-taken-requires-clause-seat
take_step-taken-requires-clause-seat g c κs within = c.requires.seat

pub take_step-taken-requires-clause-none : goal.take_step-taken-requires-clause-none
take_step-taken-requires-clause-none g c κs within = c.requires.none

pub take_step-taken-requires-clause-workers : goal.take_step-taken-requires-clause-workers
take_step-taken-requires-clause-workers g c κs within = c.requires.workers
