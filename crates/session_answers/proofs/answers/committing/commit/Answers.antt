use Rattle.std.proofs.Common.{◌∙◌, [], subst, sym}
use Rattle.snapshot_manager.specs.Turns.{Adds}
use Rattle.session_answers.proofs.Under.{pin_within}
use Rattle.snapshot_manager.specs.Seats.{seen, session_of, start}
use Rattle.session_answers.proofs.Commits.{change_under, ended, held_behind, left_stale, still_untried, told_is_answered}
use Rattle.session_answers.proofs.Readings.{named_behind}
use Rattle.session_answers.proofs.answers.committing.commit.Goals as goal

pub commit-answer-requires-clause-seat : goal.commit-answer-requires-clause-seat
commit-answer-requires-clause-seat g c = c.requires.ready.seat

pub commit-answer-requires-clause-pin : goal.commit-answer-requires-clause-pin
commit-answer-requires-clause-pin g c = c.requires.ready.pin

pub commit-answer-requires-clause-tried : goal.commit-answer-requires-clause-tried
commit-answer-requires-clause-tried g c = c.requires.ready.tried

pub commit-answer-requires-clause-named : goal.commit-answer-requires-clause-named
commit-answer-requires-clause-named g c = c.requires.ready.allowed.named

pub commit-answer-requires-clause-typed : goal.commit-answer-requires-clause-typed
commit-answer-requires-clause-typed g c = c.requires.ready.allowed.typed

pub commit-answer-requires-clause-comes : goal.commit-answer-requires-clause-comes
commit-answer-requires-clause-comes g c = c.requires.ready.allowed.comes

pub commit-answer-requires-clause-valid : goal.commit-answer-requires-clause-valid
commit-answer-requires-clause-valid g c = c.requires.ready.allowed.valid

pub commit-answer-requires-clause-told : goal.commit-answer-requires-clause-told
commit-answer-requires-clause-told g c = c.requires.ready.may

pub returns-in-Ok : goal.returns-in-Ok
returns-in-Ok g c =
    let moment = g.D.Disk.moment in
    let began = start moment c.args.shared.now in
    let old = seen c.args.seat in
    let r = c.requires.ready in
    let e = c.commit-answer.ensures in
    let o = r.pin.open_pin in
    let tells = c.in-Ok.ensures in record {
      seat = (e.seat, ended c.seen.result c.args.attempt.words c.commit-answer.result c.in-Ok.reply tells e.idle);
      same = e.same;
      reads = e.reads;
      pin = e.pin;
      answered = λ first before a. told_is_answered c.args.options.now.style moment began c.args.pinned.now c.args.attempt.change first before old (seen c.commit-answer.new.seat)
          c.args.text.now c.args.tree.now c.in-Ok.reply a o (pin_within began old c.args.pinned.now o) (named_behind moment began old c.args.pinned.now o r.database) r.typed
          c.args.attempt.words c.seen.result c.commit-answer.result tells (c.seen.ensures ∙ e.seat.counts) e.done e.place e.next e.fits e.err e.cause r.said;
    }

pub answer_held-requires-clause-seat : goal.answer_held-requires-clause-seat
answer_held-requires-clause-seat g c κs within =
    let tells = c.in-Err.ensures in
    (c.commit-answer.ensures.seat, left_stale _ c.seen.result c.args.attempt.words c.commit-answer.result c.in-Err.turn tells c.commit-answer.ensures.turn)

pub answer_held-requires-clause-start : goal.answer_held-requires-clause-start
answer_held-requires-clause-start g c κs within =
    let tells = c.in-Err.ensures in
    left_stale _ c.seen.result c.args.attempt.words c.commit-answer.result c.in-Err.turn tells c.commit-answer.ensures.began

pub answer_held-requires-clause-events : goal.answer_held-requires-clause-events
answer_held-requires-clause-events g c κs within =
    let tells = c.in-Err.ensures in
    left_stale _ c.seen.result c.args.attempt.words c.commit-answer.result c.in-Err.turn tells c.commit-answer.ensures.events

pub answer_held-requires-clause-held : goal.answer_held-requires-clause-held
answer_held-requires-clause-held g c κs within =
    let tells = c.in-Err.ensures in
    left_stale _ c.seen.result c.args.attempt.words c.commit-answer.result c.in-Err.turn tells c.commit-answer.ensures.held

pub answer_held-requires-clause-tried : goal.answer_held-requires-clause-tried
answer_held-requires-clause-tried g c κs within =
    let tells = c.in-Err.ensures in
    let found = left_stale _ c.seen.result c.args.attempt.words c.commit-answer.result c.in-Err.turn tells c.commit-answer.ensures.found in
    still_untried (start g.D.Disk.moment c.args.shared.now) c.args.pinned.now (session_of c.args.seat) (seen c.args.seat) (seen c.commit-answer.new.seat)
    c.requires.ready.pin.own found c.requires.ready.tried

pub answer_held-requires-clause-pin : goal.answer_held-requires-clause-pin
answer_held-requires-clause-pin g c κs within = c.commit-answer.ensures.pin

pub answer_held-requires-clause-change : goal.answer_held-requires-clause-change
answer_held-requires-clause-change g c κs within = (
  c.args.attempt.change,
  change_under c.args.options.now.style g.D.Disk.moment (start g.D.Disk.moment c.args.shared.now) (seen c.args.seat) c.args.pinned.now c.args.text.now c.args.tree.now c.args.attempt.change
      c.requires.ready.pin.open_pin c.requires.ready.typed,
)

pub returns-in-Err : goal.returns-in-Err
returns-in-Err g c =
    let began = start g.D.Disk.moment c.args.shared.now in
    let r = c.requires.ready in
    let e = c.commit-answer.ensures in
    let tells = c.in-Err.ensures in
    let found = left_stale _ c.seen.result c.args.attempt.words c.commit-answer.result c.in-Err.turn tells e.found in
    let h = c.answer_held.ensures in record {
      seat = h.seat;
      same = record { session = h.same.session ∙ e.same.session; last = h.same.last ∙ e.same.last };
      reads = h.reads ∙ e.reads;
      pin = h.pin;
      answered = λ first before a. held_behind began c.args.pinned.now.session first before (seen c.args.seat) a c.args.pinned.now.place (seen c.commit-answer.new.seat) (seen c.answer_held.result.1)
          (subst (λ session. Adds session [] (seen c.args.seat) (seen c.commit-answer.new.seat)) (sym r.pin.own) found) h.answered;
    }

pub answer_held-requires-clause-fit : goal.answer_held-requires-clause-fit
answer_held-requires-clause-fit g c κs within = c.requires.ready.fit

pub answer_held-requires-clause-workers : goal.answer_held-requires-clause-workers
answer_held-requires-clause-workers g c κs within = c.requires.ready.workers
