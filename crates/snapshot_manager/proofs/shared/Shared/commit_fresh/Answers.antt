use Rattle.std.proofs.Common.{◌≡◌, ◌∙◌, [], IsTrue, ap, false, sym, subst}
use Rattle.event_core.specs.Allowed.{is_pinned}
use Rattle.store_ledger.specs.Ledger.{history, is_noted, is_tried}
use Rattle.turn_lock.specs.Owners.{ExtendsByOwn}
use Rattle.array_store.specs.At.{standing}
use Rattle.array_store.specs.Events.{events, owner_of}
use Rattle.array_store.specs.Prepared.{IsAsked}
use Rattle.array_store.specs.Starts.{start_of}
use Rattle.array_store.proofs.Added.{if_ok, on_ok}
use Rattle.array_store.specs.Told.{IsTold}
use Rattle.array_store.proofs.TriedTurns.{cause_told, commit_extends, commit_start, fits_told, makes_here, may_told, next_told, place_told, tries_here, typed_told}
use Rattle.array_store.proofs.Turning.{if_err, on_err}
use Rattle.snapshot_manager.specs.Seats.{seen, start}
use Rattle.snapshot_manager.proofs.shared.Shared.commit_fresh.Goals as goal

pub commit-answer-requires : goal.commit-answer-requires
commit-answer-requires g c =
    let moment = g.D.Disk.moment in
    let session = c.args.pinned.now.session in
    let same = sym c.value.ensures.value in record {
      pinned = subst (λ p. IsTrue (is_pinned session (history p.ledger))) same c.requires.open_pin;
      tried = subst (λ p. is_noted is_tried p.ledger session ≡ false) same c.requires.untried;
      asked = subst (λ p. IsAsked moment (standing moment p) c.args.change c.args.changed) same c.requires.asked;
    }

pub end-requires : goal.end-requires
end-requires g c =
    let moment = g.D.Disk.moment in
    let session = c.args.pinned.now.session in
    let s = standing moment c.value.result.now in
    let n = standing moment c.commit-answer.new.store in
    let are : events s ≡ seen c.args.seat.now = ap (λ p. events (standing moment p)) c.value.ensures.value ∙ c.requires.found in record {
      seat = (c.requires.here, c.requires.has_turn);
      start = commit_start session c.args.change (seen c.args.seat.now) s n are c.commit-answer.result c.commit-answer.ensures.done c.commit-answer.ensures.err
          ∙ ap (λ p. start_of (standing moment p)) c.value.ensures.value ∙ c.requires.begun;
      events = subst (λ k. ExtendsByOwn owner_of k (seen c.args.seat.now) (events n)) c.requires.session
          (commit_extends session c.args.change (seen c.args.seat.now) s n are c.commit-answer.result c.commit-answer.ensures.done c.commit-answer.ensures.err);
    }

pub returns : goal.returns
returns g c =
    let moment = g.D.Disk.moment in
    let begun = start moment c.args.self.now in
    let session = c.args.pinned.now.session in
    let s = standing moment c.value.result.now in
    let n = standing moment c.commit-answer.new.store in
    let answer = c.commit-answer.ensures in
    let end = c.end.ensures in
    let new = seen c.end.new.seat in
    let are : events s ≡ seen c.args.seat.now = ap (λ p. events (standing moment p)) c.value.ensures.value ∙ c.requires.found in
    let before : IsTold begun (seen c.args.seat.now) s = subst (λ p. IsTold begun (seen c.args.seat.now) (standing moment p)) (sym c.value.ensures.value) c.requires.told in record {
      seat = end.seat;
      same = end.same;
      reads = end.reads;
      done = on_ok _ _ c.commit-answer.result (makes_here session c.args.change (seen c.args.seat.now) s n are begun before new end.seen end.told) answer.done;
      place = if_ok _ _ c.commit-answer.result (place_told moment begun c.args.change new n end.told) answer.place;
      typed = if_ok _ _ c.commit-answer.result (typed_told moment begun c.args.change new n end.told) answer.typed;
      may = if_ok _ _ c.commit-answer.result (may_told moment begun c.args.change new n end.told c.args.changed) answer.may;
      next = if_ok _ _ c.commit-answer.result (next_told moment begun c.args.change new n end.told) answer.next;
      fits = if_ok _ _ c.commit-answer.result (fits_told moment begun c.args.change new n end.told) answer.fits;
      err = on_err _ _ c.commit-answer.result (tries_here session c.args.change (seen c.args.seat.now) s n are begun before new end.seen end.told []) answer.err;
      cause = if_err _ _ c.commit-answer.result (cause_told moment begun c.args.change new n end.told session) answer.cause;
    }
