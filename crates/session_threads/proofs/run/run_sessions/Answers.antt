use Rattle.std.proofs.Common.{◌≡◌, ◌∙◌, ◌+◌, ap, length, refl, subst}
use Rattle.store_state.specs.At.{standing}
use Rattle.store_state.specs.Events.{events}
use Rattle.snapshot_manager.specs.Starts.{start_of}
use Rattle.session_threads.specs.Sessions.{AreSessionsOf}
use Rattle.snapshot_manager.specs.Seats.{seats_in_all}
use Rattle.session_threads.specs.Inner.Rooms.{HasRoom}
use Rattle.session_threads.proofs.run.run_sessions.Goals as goal

pub returns-in-Ok-clause-each : goal.returns-in-Ok-clause-each
returns-in-Ok-clause-each g c =
    subst (λ origin. AreSessionsOf c.args.options.now.style g.D.Disk.moment g.S.Source.state g.K.Sink.state origin c.args.streams c.run_shared.result.1 (events (standing g.D.Disk.moment c.run_shared.result.0)))
    (ap (λ parts. start_of (standing g.D.Disk.moment parts)) c.in-Ok.ensures.store) c.run_shared.ensures.each

pub run_shared-requires-clause-seats : goal.run_shared-requires-clause-seats
run_shared-requires-clause-seats g c κs within = c.in-Ok.ensures.seats

pub run_shared-requires-clause-count : goal.run_shared-requires-clause-count
run_shared-requires-clause-count g c κs within =
    subst (λ n. (length c.in-Ok.seats ≡ n + 1) × (seats_in_all c.in-Ok.shared ≡ n + 1)) c.len.ensures (c.in-Ok.ensures.count.1, c.in-Ok.ensures.count.0)

pub run_shared-requires-clause-begun : goal.run_shared-requires-clause-begun
run_shared-requires-clause-begun g c κs within = c.requires.begun

pub run_shared-requires-clause-room : goal.run_shared-requires-clause-room
run_shared-requires-clause-room g c κs within = subst (λ n. HasRoom n c.in-Ok.room) c.len.ensures c.in-Ok.ensures.room

pub returns-in-Ok-clause-start : goal.returns-in-Ok-clause-start
returns-in-Ok-clause-start g c = c.run_shared.ensures.start ∙ ap (λ parts. start_of (standing g.D.Disk.moment parts)) c.in-Ok.ensures.store

pub returns-in-Ok-clause-reports : goal.returns-in-Ok-clause-reports
returns-in-Ok-clause-reports g c = c.run_shared.ensures.reports

pub returns-in-Ok-clause-others : goal.returns-in-Ok-clause-others
returns-in-Ok-clause-others g c = c.run_shared.ensures.others

pub returns-in-Err-clause-err : goal.returns-in-Err-clause-err
returns-in-Err-clause-err g c = (c.in-Err.ensures.err, refl)
