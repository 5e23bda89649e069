use Rattle.std.proofs.Common.{◌≡◌, ◌∙◌, ◌+◌, ◌≤◌, length, vec_capacity, ap, sym, subst}
use Rattle.store_state.specs.At.{standing}
use Rattle.store_state.specs.Events.{events}
use Rattle.session_threads.specs.Sessions.{AreOfSessions}
use Rattle.session_threads.specs.Inner.Desks.{IsReaper}
use Rattle.session_threads.proofs.Desks.{all_ready, all_waiting, done_by, new_at, reaper_new}
use Rattle.session_threads.proofs.run.run_shared.Goals as goal

pub gathered-requires-clause-desks : goal.gathered-requires-clause-desks
gathered-requires-clause-desks g c = (
  c.args.options.now.style,
  c.args.streams,
  done_by c.args.options.now.style g.D.Disk.moment g.S.Source.state g.K.Sink.state c.args.shared c.args.seats c.args.streams c.seated-desks.result.0.items
      c.work_beside-desks.result.0.items c.requires.seats c.seated-desks.ensures.desks c.work_beside-desks.ensures.desks,
)

pub gathered-requires-clause-own : goal.gathered-requires-clause-own
gathered-requires-clause-own g c =
    let many : length c.work_beside-desks.result.0.items ≡ length c.args.streams =
    c.work_beside-desks.ensures.desks.count ∙ c.seated-desks.ensures.count in
    let new = new_at c.args.shared c.args.seats (length c.args.streams) c.seated-desks.result.1 c.requires.seats c.seated-desks.ensures.own in
    subst (λ n. IsReaper c.args.shared n c.work_beside-desks.result.1) (new.session_is ∙ sym many) c.work_beside-desks.ensures.own

pub returns-clause-each : goal.returns-clause-each
returns-clause-each g c =
    let many : length c.work_beside-desks.result.0.items ≡ length c.args.streams =
    c.work_beside-desks.ensures.desks.count ∙ c.seated-desks.ensures.count in
    c.gathered.ensures.each c.args.options.now.style c.args.streams (sym many)
    (done_by c.args.options.now.style g.D.Disk.moment g.S.Source.state g.K.Sink.state c.args.shared c.args.seats c.args.streams c.seated-desks.result.0.items
    c.work_beside-desks.result.0.items c.requires.seats c.seated-desks.ensures.desks c.work_beside-desks.ensures.desks)

pub returns-clause-others : goal.returns-clause-others
returns-clause-others g c =
    let many : length c.work_beside-desks.result.0.items ≡ length c.args.streams =
    c.work_beside-desks.ensures.desks.count ∙ c.seated-desks.ensures.count in
    subst (λ n. AreOfSessions n (events (standing g.D.Disk.moment c.gathered.result.0))) many c.gathered.ensures.others

pub seated-desks-requires-clause-count : goal.seated-desks-requires-clause-count
seated-desks-requires-clause-count g c = c.requires.count.0

pub seated-desks-requires-clause-room : goal.seated-desks-requires-clause-room
seated-desks-requires-clause-room g c = (c.requires.room.no_desks, c.requires.room.for_desks)

pub work_beside-desks-requires-clause-desks : goal.work_beside-desks-requires-clause-desks
work_beside-desks-requires-clause-desks g c κs within =
    let ready = all_ready c.args.shared c.args.seats c.args.streams c.seated-desks.result.0.items c.requires.seats c.seated-desks.ensures.desks in record {
      wait = all_waiting c.args.shared c.args.streams c.seated-desks.result.0.items c.requires.begun ready;
      some = c.requires.workers.0;
      few = c.requires.workers.1;
    }

pub work_beside-desks-requires-clause-own : goal.work_beside-desks-requires-clause-own
work_beside-desks-requires-clause-own g c κs within =
    reaper_new c.args.shared (length c.args.streams) c.seated-desks.result.1
    (new_at c.args.shared c.args.seats (length c.args.streams) c.seated-desks.result.1 c.requires.seats c.seated-desks.ensures.own)

pub gathered-requires-clause-count : goal.gathered-requires-clause-count
gathered-requires-clause-count g c =
    let many : length c.work_beside-desks.result.0.items ≡ length c.args.streams =
    c.work_beside-desks.ensures.desks.count ∙ c.seated-desks.ensures.count in
    c.requires.count.1 ∙ ap (λ n. n + 1) (sym many)

pub gathered-requires-clause-seats : goal.gathered-requires-clause-seats
gathered-requires-clause-seats g c =
    let many : length c.work_beside-desks.result.0.items ≡ length c.args.streams =
    c.work_beside-desks.ensures.desks.count ∙ c.seated-desks.ensures.count in
    (c.requires.room.no_seats, subst (λ n. n + 1 ≤ vec_capacity c.args.room.seats) (sym many) c.requires.room.for_seats)

pub gathered-requires-clause-reports : goal.gathered-requires-clause-reports
gathered-requires-clause-reports g c =
    let many : length c.work_beside-desks.result.0.items ≡ length c.args.streams =
    c.work_beside-desks.ensures.desks.count ∙ c.seated-desks.ensures.count in
    (c.requires.room.no_reports, subst (λ n. n ≤ vec_capacity c.args.room.reports) (sym many) c.requires.room.for_reports)

pub returns-clause-start : goal.returns-clause-start
returns-clause-start g c = c.gathered.ensures.start

pub returns-clause-reports : goal.returns-clause-reports
returns-clause-reports g c =
    let many : length c.work_beside-desks.result.0.items ≡ length c.args.streams =
    c.work_beside-desks.ensures.desks.count ∙ c.seated-desks.ensures.count in
    c.gathered.ensures.count ∙ many
