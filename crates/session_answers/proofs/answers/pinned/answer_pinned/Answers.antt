use Rattle.std.proofs.Common.{◌∙◌, ◌+◌, arith, refl, subst, sym}
use Rattle.snapshot_manager.specs.Seats.{read_count, seen, start}
use Rattle.session_answers.specs.Inner.Steps.{WasRead}
use Rattle.session_answers.specs.Reads.{CountsAt}
use Rattle.session_answers.proofs.Attempts.{told_answers, told_counts, was_change}
use Rattle.session_answers.proofs.Readings.{change_is_read, database_now, no_act}
use Rattle.session_answers.proofs.Counting.{change_counts}
use Rattle.session_answers.proofs.Under.{pin_within}
use Rattle.session_answers.proofs.answers.pinned.answer_pinned.Goals as goal

pub overflow_add-place : goal.overflow_add-place
overflow_add-place g c =
    let le = pin_within (start g.D.Disk.moment c.args.shared.now) (seen c.args.seat) c.args.pinned.now c.requires.under.pin.open_pin in
    omega (arith, le, c.requires.under.seat.0.counts, c.seen-seen.ensures)

pub returns-in-Ok : goal.returns-in-Ok
returns-in-Ok g c =
    let style = c.args.options.now.style in
    let moment = g.D.Disk.moment in
    let r = c.requires.under in
    let outcome = c.read_under-outcome.result.0 in
    let seat = c.read_under-outcome.result.1 in
    let w = c.read_under-outcome.ensures.read in record {
      seat = w.read.seat;
      same = w.read.same;
      pin = w.read.pin;
      answered = told_answers style moment c.args.shared.now c.args.pinned.now c.args.seat seat c.args.text.now c.args.tree.now
          r.database r.untried (c.args.pinned.now.place + 1) c.in-Ok.reply outcome w c.in-Ok.ensures refl;
      reads = told_counts style moment c.args.shared.now c.args.pinned.now c.args.seat seat c.args.text.now c.args.tree.now
          r.database r.untried (c.args.pinned.now.place + 1) c.in-Ok.reply outcome w c.in-Ok.ensures;
    }

pub commit-requires-clause-ready : goal.commit-requires-clause-ready
commit-requires-clause-ready g c κs within =
    let style = c.args.options.now.style in
    let moment = g.D.Disk.moment in
    let r = c.requires.under in
    let seat = c.read_under-outcome.result.1 in
    let read = c.read_under-outcome.ensures.read in
    let w = subst (λ result. WasRead style moment c.args.shared.now c.args.pinned.now c.args.seat seat c.args.text.now c.args.tree.now result) (was_change (c.args.pinned.now.place + 1) c.read_under-outcome.result.0 c.in-Err.attempt c.in-Err.ensures) read in
    let made = change_is_read style moment c.args.shared.now c.args.pinned.now c.args.seat seat c.args.text.now c.args.tree.now r.database r.untried
    c.in-Err.attempt.change c.in-Err.attempt.changed c.in-Err.attempt.words w in record {
      seat = read.read.seat;
      pin = read.read.pin;
      tried = made.tried;
      allowed = made.allowed;
      database = database_now style moment c.args.shared.now c.args.pinned.now c.args.seat seat c.args.text.now c.args.tree.now
          r.database r.untried c.read_under-outcome.result.0 read;
      may = made.may;
      said = made.said;
      typed = made.typed;
      fit = r.fit;
      workers = r.workers;
    }

pub returns-in-Err : goal.returns-in-Err
returns-in-Err g c =
    let style = c.args.options.now.style in
    let moment = g.D.Disk.moment in
    let r = c.requires.under in
    let seat = c.read_under-outcome.result.1 in
    let w = subst (λ result. WasRead style moment c.args.shared.now c.args.pinned.now c.args.seat seat c.args.text.now c.args.tree.now result) (was_change (c.args.pinned.now.place + 1) c.read_under-outcome.result.0 c.in-Err.attempt c.in-Err.ensures) c.read_under-outcome.ensures.read in
    let e = c.commit.ensures in record {
      seat = e.seat;
      same = record { session = e.same.session ∙ w.read.same.session; last = e.same.last ∙ w.read.same.last };
      pin = e.pin;
      answered = e.answered (seen c.args.seat) w.read.adds.own
          (no_act style moment c.args.shared.now c.args.pinned.now c.args.seat seat c.args.text.now c.args.tree.now r.database r.untried _ w);
      reads = λ accepted. subst (CountsAt moment (start moment c.args.shared.now) (seen c.args.seat) c.args.pinned.now.place c.args.pinned.now.names c.args.text.now c.args.tree.now (read_count c.args.seat)) (sym e.reads)
          (change_counts style moment c.args.shared.now c.args.pinned.now c.args.seat seat c.args.text.now c.args.tree.now r.database
          c.in-Err.attempt.change c.in-Err.attempt.changed c.in-Err.attempt.words w);
    }

pub read_under-outcome-requires-clause-under : goal.read_under-outcome-requires-clause-under
read_under-outcome-requires-clause-under g c κs within = c.requires.under
