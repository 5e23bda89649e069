use Rattle.std.proofs.Common.{◌∙◌, ap, length, sym, arith}
use Rattle.turn_lock.proofs.Gathering.{longer_by_one}
use Rattle.session_threads.proofs.Desks.{all_ended, all_extend, all_idle, all_served, of_sessions, seats_idle}
use Rattle.session_threads.proofs.run.gathered.Goals as goal

pub emptied-seats-requires-clause-ended : goal.emptied-seats-requires-clause-ended
emptied-seats-requires-clause-ended g c =
    all_ended c.requires.desks.0 g.D.Disk.moment g.S.Source.state g.K.Sink.state c.args.shared c.requires.desks.1 c.args.desks.items c.requires.desks.2

pub push_reserved-requires : goal.push_reserved-requires
push_reserved-requires g c = omega (arith, c.emptied-seats.ensures.seats.0, c.emptied-seats.ensures.seats.1)

pub finish-requires-clause-seats : goal.finish-requires-clause-seats
finish-requires-clause-seats g c =
    let idle = seats_idle c.requires.desks.0 g.D.Disk.moment g.S.Source.state g.K.Sink.state c.args.shared c.requires.desks.1 c.args.desks.items c.emptied-seats.result.0.items
    c.emptied-seats.result.1 c.requires.desks.2 c.emptied-seats.ensures.emptied in
    all_idle c.args.shared c.emptied-seats.result.0.items c.push_reserved.new.self.items c.from_vec.result c.args.own _ idle c.requires.own c.push_reserved.ensures.items
    c.from_vec.ensures

pub finish-requires-clause-count : goal.finish-requires-clause-count
finish-requires-clause-count g c =
    ap length c.from_vec.ensures ∙ longer_by_one c.emptied-seats.result.0.items c.args.own c.push_reserved.new.self.items (length c.args.desks.items) c.push_reserved.ensures.items
    c.emptied-seats.ensures.seats.0 ∙ sym c.requires.count

pub returns-clause-each : goal.returns-clause-each
returns-clause-each g c = λ style all same are.
    let extend = all_extend c.emptied-seats.result.0.items c.push_reserved.new.self.items c.from_vec.result c.args.own _ c.push_reserved.ensures.items c.from_vec.ensures
    c.finish.ensures.events in
    all_served style g.D.Disk.moment g.S.Source.state g.K.Sink.state c.args.shared all c.args.desks.items c.emptied-seats.result.0.items c.emptied-seats.result.1 _
    are c.emptied-seats.ensures.emptied (c.emptied-seats.ensures.seats.0 ∙ sym same) (c.emptied-seats.ensures.reports ∙ sym same) extend

pub returns-clause-others : goal.returns-clause-others
returns-clause-others g c =
    of_sessions c.args.shared c.emptied-seats.result.0.items c.push_reserved.new.self.items c.from_vec.result c.args.own _ _ _ c.requires.own c.requires.count
    c.push_reserved.ensures.items c.from_vec.ensures c.finish.ensures.owned c.finish.ensures.events

pub returns-clause-start : goal.returns-clause-start
returns-clause-start g c = c.finish.ensures.start

pub returns-clause-count : goal.returns-clause-count
returns-clause-count g c = c.emptied-seats.ensures.reports
