use Rattle.std.proofs.Common.{◌≡◌, ◌∙◌, IsTrue, false, ap, length, subst, sym}
use Rattle.event_core.specs.Allowed.{is_pinned}
use Rattle.store_ledger.specs.Ledger.{history, is_noted, is_tried}
use Rattle.store_state.specs.At.{standing}
use Rattle.store_state.specs.Events.{events, owner_of}
use Rattle.snapshot_manager.specs.Lent.{turn_with}
use Rattle.snapshot_manager.specs.Owners.{ExtendsByOwn}
use Rattle.snapshot_manager.specs.Prepared.{IsAsked}
use Rattle.snapshot_manager.specs.Starts.{start_of}
use Rattle.session_answers.specs.Inner.Turns.{Follows, IsTried}
use Rattle.session_answers.proofs.Attempts.{follows_told, was_change}
use Rattle.session_answers.proofs.Going.{keeps_same}
use Rattle.session_answers.proofs.turns.held.answer_read.Goals as goal

pub commit_in_turn-requires-clause-pinned : goal.commit_in_turn-requires-clause-pinned
commit_in_turn-requires-clause-pinned g c =
    subst (λ p. IsTrue (is_pinned c.args.session (history p.ledger))) (sym c.value-store.ensures.value) c.requires.pinned

pub commit_in_turn-requires-clause-tried : goal.commit_in_turn-requires-clause-tried
commit_in_turn-requires-clause-tried g c =
    subst (λ p. is_noted is_tried p.ledger c.args.session ≡ false) (sym c.value-store.ensures.value) c.requires.tried

pub commit_in_turn-requires-clause-asked : goal.commit_in_turn-requires-clause-asked
commit_in_turn-requires-clause-asked g c =
    let attempt = c.in-Err.attempt in
    subst (λ p. IsAsked g.D.Disk.moment (standing g.D.Disk.moment p) attempt.change attempt.changed) (sym c.value-store.ensures.value)
    (c.requires.asked attempt.change attempt.changed attempt.words (was_change _ c.args.outcome attempt c.in-Err.ensures))

pub returns-in-Ok : goal.returns-in-Ok
returns-in-Ok g c =
    let moment = g.D.Disk.moment in
    let turn = c.args.turn in
    let new = turn_with turn c.value-store.result.now in
    let same : new ≡ turn = ap (turn_with turn) c.value-store.ensures.value in record {
      keeps = keeps_same moment c.args.session turn new same;
      follows = follows_told moment c.args.session _ turn new c.in-Ok.reply c.args.outcome c.in-Ok.ensures same (ap length c.history.ensures);
    }

pub returns-in-Err : goal.returns-in-Err
returns-in-Err g c =
    let moment = g.D.Disk.moment in
    let session = c.args.session in
    let turn = c.args.turn in
    let attempt = c.in-Err.attempt in
    let went = c.commit_in_turn in
    let n = standing moment went.new.store in
    let same = c.value-store.ensures.value in record {
      keeps = record {
        turn = λ seat has. has;
        start = went.ensures.start ∙ ap (λ p. start_of (standing moment p)) same;
        extends = subst (λ p. ExtendsByOwn owner_of session (events (standing moment p)) (events n)) same went.ensures.extends;
      };
      follows = subst (Follows moment session turn (turn_with turn went.new.store) went.result) (sym (was_change _ c.args.outcome attempt c.in-Err.ensures))
          (subst (λ p. IsTried moment session attempt.change attempt.words (standing moment p) n went.result) same went.ensures.tried);
    }
