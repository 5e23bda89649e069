use Rattle.std.proofs.Common.{ap, length, refl, subst, sym}
use Rattle.store_state.specs.At.{standing}
use Rattle.store_state.specs.Events.{events}
use Rattle.snapshot_manager.proofs.TriedTurns.{commit_extends, commit_start}
use Rattle.session_answers.specs.Refusals.{IsUncommittedReply}
use Rattle.session_answers.specs.Inner.Turns.{TellsCommit}
use Rattle.session_answers.proofs.turns.held.commit_in_turn.Goals as goal

pub returns-in-Ok : goal.returns-in-Ok
returns-in-Ok g c =
    let s = standing g.D.Disk.moment c.args.store.now in
    let n = standing g.D.Disk.moment c.commit-answer.new.store in
    let result = c.commit-answer.result in
    let answer = c.commit-answer.ensures in
    let said = c.at_place.ensures in record {
      start = commit_start c.args.session c.args.attempt.change (events s) s n refl result answer.done answer.err;
      extends = commit_extends c.args.session c.args.attempt.change (events s) s n refl result answer.done answer.err;
      tried = record {
        answer = result;
        done = answer.done;
        place = answer.place;
        next = answer.next;
        fits = answer.fits;
        err = answer.err;
        cause = answer.cause;
        tells = subst (λ r. TellsCommit (length n.ledger.entries) c.args.attempt.words r c.at_place.result) (sym c.in-Ok.is) (said.words, said.place);
      };
    }

pub returns-in-Err : goal.returns-in-Err
returns-in-Err g c =
    let s = standing g.D.Disk.moment c.args.store.now in
    let n = standing g.D.Disk.moment c.commit-answer.new.store in
    let result = c.commit-answer.result in
    let answer = c.commit-answer.ensures in record {
      start = commit_start c.args.session c.args.attempt.change (events s) s n refl result answer.done answer.err;
      extends = commit_extends c.args.session c.args.attempt.change (events s) s n refl result answer.done answer.err;
      tried = record {
        answer = result;
        done = answer.done;
        place = answer.place;
        next = answer.next;
        fits = answer.fits;
        err = answer.err;
        cause = answer.cause;
        tells = subst (λ r. TellsCommit (length n.ledger.entries) c.args.attempt.words r c.uncommitted.result) (sym c.in-Err.is)
            (subst (λ count. IsUncommittedReply count c.in-Err.fault c.uncommitted.result) (ap length c.history.ensures) c.uncommitted.ensures);
      };
    }

pub commit-answer-requires-clause-asked : goal.commit-answer-requires-clause-asked
commit-answer-requires-clause-asked g c = c.requires.asked
