use Rattle.std.proofs.Common.{◌∙◌, ◌∷◌, ◌++◌, map, ap, sym, subst, All}
use Rattle.turn_lock.specs.Closings.{claims_of, lock_of}
use Rattle.turn_lock.specs.Seats.{claim_of, IsSeatOf as IsLockSeatOf, IsIdle as HasNoTurn}
use Rattle.turn_lock.proofs.Gathering.{all_left, all_last, gathered}
use Rattle.snapshot_manager.specs.Seats.{claim_in, IsIdleAt}
use Rattle.snapshot_manager.proofs.Seating.{shorter}
use Rattle.snapshot_manager.proofs.finish.take_all.Goals as goal

pub take_back-requires : goal.take_back-requires
take_back-requires g c =
    let i = c.loop-last.invariant in
    let P = IsIdleAt (lock_of c.args.closing.now) in
    let last = all_last P c.pop.new.self c.in-Some.last (subst (All P) c.in-Some.ensures i.idle) in
    subst (λ seat. IsLockSeatOf (lock_of c.loop-last.closing) seat × HasNoTurn seat) (sym c.into_turn_seat.ensures)
    (subst (λ lock. IsLockSeatOf lock c.in-Some.last.turn_seat × HasNoTurn c.in-Some.last.turn_seat) (sym i.same) last)

pub loop-last-preserved : goal.loop-last-preserved
loop-last-preserved g c =
    let i = c.loop-last.invariant in
    let P = IsIdleAt (lock_of c.args.closing.now) in
    let now = c.take_back.ensures in record {
      same = now.lock ∙ i.same;
      idle = all_left P c.pop.new.self c.in-Some.last (subst (All P) c.in-Some.ensures i.idle);
      claimed = ap (λ claims. map claim_in c.pop.new.self ++ claims) (◌∙◌ {b = claim_of c.into_turn_seat.result ∷ claims_of c.loop-last.closing} now.claims
          (ap (λ seat. claim_of seat ∷ claims_of c.loop-last.closing) c.into_turn_seat.ensures))
          ∙ sym (gathered claim_in c.pop.new.self c.in-Some.last (claims_of c.loop-last.closing))
          ∙ ap (λ seats. map claim_in seats ++ claims_of c.loop-last.closing) (sym c.in-Some.ensures)
          ∙ i.claimed;
    }

pub returns-clause-claims : goal.returns-clause-claims
returns-clause-claims g c =
    let i = c.loop-last.invariant in
    ap (λ seats. map claim_in seats ++ claims_of c.loop-last.closing) (sym c.in_default.ensures.0) ∙ i.claimed

pub loop-last-smaller : goal.loop-last-smaller
loop-last-smaller g c = shorter c.loop-last.seats c.pop.new.self c.in-Some.last c.in-Some.ensures
