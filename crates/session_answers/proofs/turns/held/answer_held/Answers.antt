use Rattle.session_answers.proofs.TurnsEnding.{answered_last, database_here, extends_last, pin_last, pinned_here, start_last, tried_here, turn_last}
use Rattle.session_answers.proofs.turns.held.answer_held.Goals as goal

pub end_turn-requires-clause-seat : goal.end_turn-requires-clause-seat
end_turn-requires-clause-seat g c =
    let r = c.requires in
    let went = c.answer_in_turn-reply in (
      r.seat.0,
      turn_last g.D.Disk.moment c.args.shared.now c.args.seat c.args.turn c.value.result.now c.value.ensures.value c.args.pinned.now r.held r.pin c.is_at.ensures.at r.start r.events
          went.result.1 c.value-2.result.now c.value-2.ensures.value went.ensures.keeps r.seat.1,
    )

pub end_turn-requires-clause-start : goal.end_turn-requires-clause-start
end_turn-requires-clause-start g c =
    let r = c.requires in
    let went = c.answer_in_turn-reply in
    start_last g.D.Disk.moment c.args.shared.now c.args.seat c.args.turn c.value.result.now c.value.ensures.value c.args.pinned.now r.held r.pin c.is_at.ensures.at r.start r.events
    went.result.1 c.value-2.result.now c.value-2.ensures.value went.ensures.keeps

pub end_turn-requires-clause-events : goal.end_turn-requires-clause-events
end_turn-requires-clause-events g c =
    let r = c.requires in
    let went = c.answer_in_turn-reply in
    extends_last g.D.Disk.moment c.args.shared.now c.args.seat c.args.turn c.value.result.now c.value.ensures.value c.args.pinned.now r.held r.pin c.is_at.ensures.at r.start r.events
    went.result.1 c.value-2.result.now c.value-2.ensures.value went.ensures.keeps

pub returns : goal.returns
returns g c =
    let moment = g.D.Disk.moment in
    let r = c.requires in
    let went = c.answer_in_turn-reply in
    let end = c.end_turn.ensures in record {
      seat = end.seat;
      same = end.same;
      reads = end.reads;
      pin = pin_last moment c.args.shared.now c.args.seat c.args.turn c.value.result.now c.value.ensures.value c.args.pinned.now r.held r.pin c.is_at.ensures.at r.start r.events
          went.result.1 c.value-2.result.now c.value-2.ensures.value went.ensures.keeps c.args.options.now.style c.args.text.now c.args.tree.now went.result.0 went.ensures.goes
          c.is_at-2.ensures.ledger c.is_at-2.ensures.counted c.end_turn.new.seat end.seen end.same.session;
      answered = answered_last moment c.args.shared.now c.args.seat c.args.turn c.value.result.now c.value.ensures.value c.args.pinned.now r.held r.pin c.is_at.ensures.at r.start r.events
          went.result.1 c.value-2.result.now c.value-2.ensures.value went.ensures.keeps c.args.options.now.style c.args.text.now c.args.tree.now went.result.0 went.ensures.goes
          c.is_at-2.ensures.ledger c.is_at-2.ensures.counted c.end_turn.new.seat end.seen
          r.change.0 r.change.1;
    }

pub answer_in_turn-reply-requires-clause-over : goal.answer_in_turn-reply-requires-clause-over
answer_in_turn-reply-requires-clause-over g c κs within = record {
  pinned = pinned_here g.D.Disk.moment c.args.shared.now c.args.seat c.args.turn c.value.result.now c.value.ensures.value c.args.pinned.now c.requires.held c.requires.pin;
  tried = tried_here g.D.Disk.moment c.args.shared.now c.args.seat c.args.turn c.value.result.now c.value.ensures.value c.args.pinned.now c.requires.held c.requires.pin c.requires.tried;
  database = database_here g.D.Disk.moment c.args.shared.now c.args.seat c.args.turn c.value.result.now c.value.ensures.value c.args.pinned.now c.requires.held c.requires.pin
      c.is_at.ensures.at;
  fit = c.requires.fit;
  workers = c.requires.workers;
}
