use Rattle.std.proofs.Common.{◌∙◌, ap, length, subst, sym}
use Rattle.plan_changes.specs.Stored.{AreStored}
use Rattle.snapshot_manager.specs.Lent.{turn_with}
use Rattle.store_state.specs.At.{standing}
use Rattle.session_answers.specs.Inner.Turns.{Goes, IsOver, KeepsTurn, goes_short}
use Rattle.session_answers.proofs.Going.{keeps_same}
use Rattle.session_answers.proofs.turns.held.answer_in_turn.Goals as goal

pub answer_over-requires-clause-names : goal.answer_over-requires-clause-names
answer_over-requires-clause-names g c κs within = c.in-Ok.ensures ∙ c.names.ensures.names

pub answer_over-requires-clause-stored : goal.answer_over-requires-clause-stored
answer_over-requires-clause-stored g c κs within = subst AreStored (sym c.in-Ok.ensures) c.names.ensures.stored

pub returns-in-Ok : goal.returns-in-Ok
returns-in-Ok g c =
    let moment = g.D.Disk.moment in
    let e = ap (turn_with c.args.turn) c.value-store.ensures.value in
    let went = c.answer_over in record {
      keeps = subst (λ t. KeepsTurn moment c.args.session t went.result.1) e went.ensures.keeps;
      goes = subst (λ t. Goes c.args.options.now.style moment c.args.session t went.result.1 c.args.text.now c.args.tree.now went.result.0) e went.ensures.goes;
    }

pub returns-in-Err : goal.returns-in-Err
returns-in-Err g c =
    let moment = g.D.Disk.moment in
    let e = c.value-store.ensures.value in record {
      keeps = keeps_same moment c.args.session c.args.turn (turn_with c.args.turn c.value-store.result.now) (ap (turn_with c.args.turn) e);
      goes = goes_short (ap (standing moment) e) c.want.ensures.want (c.want.ensures.place ∙ ap length c.history.ensures);
    }

pub answer_over-requires-clause-over : goal.answer_over-requires-clause-over
answer_over-requires-clause-over g c κs within =
    subst (λ t. IsOver c.args.options.now g.D.Disk.moment c.args.session t c.args.tree.now) (sym (ap (turn_with c.args.turn) c.value-store.ensures.value)) c.requires.over
