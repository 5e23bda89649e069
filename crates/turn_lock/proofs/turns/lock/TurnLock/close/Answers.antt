use Rattle.std.proofs.Common.{◌∙◌, ◌++◌, map, ap, sym, subst, length, All}
use Rattle.std.proofs.lemmas.List.{length-map}
use Rattle.turn_lock.specs.Closings.{claims_of}
use Rattle.turn_lock.specs.Owners.{AreOwnedBelow, ExtendsByOthers}
use Rattle.turn_lock.specs.Seats.{claim_of, first_value, seat_count, IsSeatOf, IsIdle, AreIdleSeats}
use Rattle.turn_lock.specs.declared.turns.view.Claim.{Claim}
use Rattle.turn_lock.proofs.Gathering.{all_left, all_last, all_unmapped, gathered, one_fewer}
use Rattle.turn_lock.proofs.turns.lock.TurnLock.close.Goals as goal

pub take_back-requires : goal.take_back-requires
take_back-requires g c = let i = c.loop-last.invariant in subst (λ l. IsSeatOf l c.in-Some.last × IsIdle c.in-Some.last) (sym i.same)
    (all_last (λ s. IsSeatOf c.args.self s × IsIdle s) c.pop.new.self c.in-Some.last (subst (AreIdleSeats c.args.self) c.in-Some.ensures i.idle))

pub loop-last-preserved : goal.loop-last-preserved
loop-last-preserved g c = let i = c.loop-last.invariant in let now = c.take_back.ensures in record {
  same = now.lock ∙ i.same;
  idle = all_left (λ s. IsSeatOf c.args.self s × IsIdle s) c.pop.new.self c.in-Some.last (subst (AreIdleSeats c.args.self) c.in-Some.ensures i.idle);
  claimed = ap (λ cs. map claim_of c.pop.new.self ++ cs) now.claims ∙ sym (gathered claim_of c.pop.new.self c.in-Some.last (claims_of c.loop-last.closing))
      ∙ ap (λ ss. map claim_of ss ++ claims_of c.loop-last.closing) (sym c.in-Some.ensures) ∙ i.claimed;
}

pub end-requires : goal.end-requires
end-requires g c = let i = c.loop-last.invariant in let all = ap (λ ss. map claim_of ss ++ claims_of c.loop-last.closing) (sym c.in_default.ensures.0) ∙ i.claimed in
    ap length all ∙ length-map c.args.seats claim_of ∙ c.requires.count ∙ ap seat_count (sym i.same)

pub returns-clause-entries : goal.returns-clause-entries
returns-clause-entries g c = let i = c.loop-last.invariant in let all = ap (λ ss. map claim_of ss ++ claims_of c.loop-last.closing) (sym c.in_default.ensures.0) ∙ i.claimed in
    let P : Claim g.row.V-Entry.Denot → Type 0 = λ e. ExtendsByOthers g.V.History.owner e.number e.seen (g.V.History.entries c.end.result) in
    all_unmapped P claim_of c.args.seats (subst (All P) all c.end.ensures.entries)

pub returns-clause-owned : goal.returns-clause-owned
returns-clause-owned g c = subst (λ l. AreOwnedBelow g.V.History.owner (seat_count l) (g.V.History.entries c.end.result)) c.loop-last.invariant.same c.end.ensures.owned

pub loop-last-smaller : goal.loop-last-smaller
loop-last-smaller g c = one_fewer c.pop.new.self c.in-Some.last c.loop-last.seats c.in-Some.ensures

pub returns-clause-origin : goal.returns-clause-origin
returns-clause-origin g c = c.end.ensures.origin ∙ ap (λ l. g.V.History.origin (first_value l)) c.loop-last.invariant.same
